-- `show::put_pair` meets its contract: two stores side by side are one write. Assumes nothing.
use Prim.Native.Nat.{◌/◌, ◌%◌}
use native.Mathlib.Omega.{arith}
use lib.ListN.{length-set}
use Rattle.octets.proofs.Overwrite.{stored-pair}
use Rattle.show.specs.Hex.{hex_digit}
use Rattle.show.proofs.put_pair.Goals as goal

pub bounds-out-at-2 : goal.bounds-out-at-2
bounds-out-at-2 c = simp length-set (omega arith)

pub returns : goal.returns
returns c =
    let s = c.args in
    rw (c.hex_digit.ensures, c.hex_digit-2.ensures) (stored-pair s.out.now s.at (hex_digit (s.b / 16)) (hex_digit (s.b % 16)) (omega arith))
