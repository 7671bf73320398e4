-- `octets_part::byte_at` meets its contract. Assumes nothing.
use mathlib.Core.Path.{sym}
use native.Mathlib.Omega.{arith}
use lib.ListN.{get_or-eq_default}
use Rattle.octets_part.proofs.byte_at.Goals as goal

pub returns : goal.returns
returns c = let s = c.args in sym (get_or-eq_default s.bytes.now 0 {n = s.i} (omega arith))
