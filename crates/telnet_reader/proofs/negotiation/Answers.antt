-- `telnet_reader::negotiation` meets its contract. Assumes nothing.
use mathlib.Core.Path.{sym}
use native.Mathlib.Omega.{arith}
use Rattle.telnet_reader.proofs.Places.{verb-cut, verb-found}
use Rattle.telnet_reader.proofs.negotiation.Goals as goal

pub returns-then-place-s : goal.returns-then-place-s
returns-then-place-s c =
    let a = c.args in
    sym (verb-cut a.s.now a.at a.verb (omega arith))

pub returns : goal.returns
returns c =
    let a = c.args in
    sym (verb-found a.s.now a.at a.verb (omega arith))
