-- `telnet_line::words::put_spaced` meets its contract. Assumes nothing.
use Rattle.telnet_line.proofs.Put.{nothing, byte-before}
use Rattle.telnet_line.proofs.words.put_spaced.Goals as goal

pub returns-in_default : goal.returns-in_default
returns-in_default c = rw c.in_default.is (nothing _ _)

pub returns : goal.returns
returns c =
    let h = rw c.in-Some.is at c.requires in
    rw c.in-Some.is (byte-before 32 h c.put_number.ensures)
