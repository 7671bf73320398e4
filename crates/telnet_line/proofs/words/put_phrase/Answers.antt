-- `telnet_line::words::put_phrase` meets its contract. Assumes nothing.
use native.Mathlib.Omega.{arith}
use Rattle.telnet_line.proofs.Put.{joined, wider}
use Rattle.telnet_line.proofs.words.put_phrase.Goals as goal

pub returns : goal.returns
returns c =
    let first = joined c.put_word-first.ensures c.put_spaced-second.ensures (omega arith) in
    wider (joined first c.put_spaced.ensures (omega arith)) (omega arith)
