-- `octets::no_room` meets its contract. Assumes nothing.
use mathlib.Core.Path.{sym}
use Prim.Native.Nat.{◌+◌, ◌-◌}
use native.Mathlib.Omega.{arith}
use borrow.Author.Tests.{lt-ltb}
use Rattle.octets.proofs.Order.{ltb_iff}
use Rattle.octets.proofs.no_room.Goals as goal

pub returns-then-length-at : goal.returns-then-length-at
returns-then-length-at c = let s = c.args in sym (lt-ltb s.length (s.at + s.count) (omega arith))

pub returns : goal.returns
returns c =
    let s = c.args in ltb_iff (s.length - s.at) s.count s.length (s.at + s.count) (λ h. omega arith) (λ h. omega arith)
