-- The laws of `Put`: nothing, what is put after a text, two texts one after the other, a text within a wider bound, and
-- a byte after or before a text. Assumes nothing.
use mathlib.Core.Path.{◌≡◌, refl, sym, ◌∙◌}
use mathlib.Core.List.{List, [], ◌∷◌, ◌++◌}
use Prim.Native.Nat.{ℕ, ◌+◌, ◌≤◌, ◌<◌}
use native.Mathlib.Nat.{add-zero, add_assoc}
use native.Mathlib.Omega.{arith}
use lib.ListN.{length, set, length-append}
use Rattle.octets.specs.Lent.{overwrite}
use Rattle.octets.proofs.Overwrite.{length-overwrite, overwrite-nil, overwrite-one, overwrite-append, overwrite-cons}
use Rattle.telnet_line.specs.Internal.Put.{Put}

pub nothing : (b : List ℕ) (at : ℕ) → Put [] 0 b at at b
nothing b at = record { after = sym (add-zero at); bytes = sym (overwrite-nil b at); few = omega arith }

module _ {x : List ℕ} {m : ℕ} {b : List ℕ} {at r : ℕ} {l : List ℕ} (p : Put x m b at r l) where
  pub put-after : (y : List ℕ) → at + (length x + length y) ≤ length b → overwrite l r y ≡ overwrite b at (x ++ y)
  put-after y h = rw (p.bytes, p.after) (overwrite-append b at x y h)

  pub joined : {y : List ℕ} {n q : ℕ} {k : List ℕ} → Put y n l r q k → at + (m + n) ≤ length b → Put (x ++ y) (m + n) b at q k
  joined {y} {n} s h = record {
    after = s.after ∙ rw (p.after, length-append, add_assoc);
    bytes = s.bytes ∙ put-after y (omega (arith, p.few, s.few));
    few = rw length-append (omega (arith, p.few, s.few));
  }

  pub wider : {n : ℕ} → m ≤ n → Put x n b at r l
  wider h = record { after = p.after; bytes = p.bytes; few = omega (arith, p.few) }

  -- a byte after a text
  pub byte-after : (c : ℕ) → at + (m + 1) ≤ length b → Put (x ++ c ∷ []) (m + 1) b at (r + 1) (set l r c)
  byte-after c h =
      let k = length-overwrite b at x (omega (arith, p.few)) in
      let within : r < length l = rw (p.bytes, k) (omega (arith, p.after, p.few)) in
      joined (record { after = refl; bytes = sym (overwrite-one l r c within); few = omega arith }) h

-- a byte before a text
pub byte-before : {x : List ℕ} {m : ℕ} {b : List ℕ} {at r : ℕ} {l : List ℕ} (c : ℕ) → at + (1 + m) ≤ length b
    → Put x m (set b at c) (at + 1) r l → Put (c ∷ x) (1 + m) b at r l
byte-before {x} {b = b} {at} c h p = record {
  after = omega (arith, p.after);
  bytes = p.bytes ∙ overwrite-cons b at c x (omega (arith, p.few));
  few = omega (arith, p.few);
}
