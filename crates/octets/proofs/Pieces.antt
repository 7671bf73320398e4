-- Pieces put one after the other to the front of a buffer. Assumes nothing.
use mathlib.Core.Path.{◌≡◌, ap, ◌∙◌}
use mathlib.Core.Bool.{Bool}
use mathlib.Core.List.{List, ◌++◌}
use Prim.Native.Nat.{ℕ, ◌+◌, ◌≤◌}
use native.Mathlib.Omega.{arith}
use lib.ListN.{length}
use Rattle.octets.specs.Lent.{outcome, overwrite}
use Rattle.octets.specs.Promise.{put_at}
use Rattle.octets.proofs.Overwrite.{overwrite-append, length-overwrite}
use Rattle.octets.proofs.Promise.{put_whole}

module _ (l : List ℕ) (x y : List ℕ) (at : ℕ) (seam : at ≡ length x) (room : at + length y ≤ length l) where
  -- a piece after those that are there
  pub after : overwrite (overwrite l 0 x) at y ≡ overwrite l 0 (x ++ y)
  after =
      let z : at ≡ 0 + length x = omega arith in
      rw z (overwrite-append l 0 x y (omega arith))

  -- and one that was put there
  pub put-after : (b m : List ℕ) (r : Bool) → b ≡ overwrite l 0 x → outcome r m ≡ put_at y b at → m ≡ overwrite l 0 (x ++ y)
  put-after b m r e h =
      let n : length b ≡ length l = ap length e ∙ length-overwrite l 0 x (omega arith) in
      put_whole y b at (omega arith) h ∙ ap (λ k. overwrite k at y) e ∙ after
