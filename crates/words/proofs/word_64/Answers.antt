-- `words::word_64` meets its contract: the number of the bytes so far, with those that are left after it, is the whole.
-- Assumes nothing.
use mathlib.Core.Path.{◌≡◌, refl, ◌∙◌}
use mathlib.Core.List.{List, [], ◌∷◌}
use Prim.Native.Nat.{ℕ, zero, suc, ◌+◌, ◌-◌, ◌*◌, ◌%◌, ◌^◌, ◌<◌}
use native.Mathlib.Nat.{mul-one, add-zero}
use native.Mathlib.Omega.{arith}
use Rattle.std.proofs.Common.{rules}
use lib.Bits.{bit_or}
use lib.ListN.{length, take}
use Rattle.words.proofs.BigEndian.{number-more, joined-byte, joined-lt}
use Rattle.words.proofs.word_64.Goals as goal

none_left : (n : ℕ) (l : List ℕ) → (0 < n → length l ≡ 0) → take n l ≡ []
none_left zero l h = refl
none_left (suc n) [] h = refl
none_left (suc n) (b ∷ l) h = absurd (omega (arith, h (omega arith)))

pub loop-b-preserved : goal.loop-b-preserved
loop-b-preserved c =
    let l = c.loop-b in
    let b = c.in-Some.b.now in
    let k = c.next.new.self.n in
    let steps = c.in-Some.ensures.steps in
    let left : l.b-iterator.n ≡ suc k = omega (arith, steps.1) in
    let byte : b < 256 = search rules in
    let now : bit_or (l.n * 256 % 2 ^ 64) c.from.result ≡ l.n * 256 + b = rw c.from.ensures (joined-byte l.n b (8 - l.b-iterator.n) l.invariant.1 (omega arith) byte) in
    let places : suc (8 - l.b-iterator.n) ≡ 8 - k = omega arith in (
      omega arith,
      rw (now, ← places) (joined-lt l.n b (8 - l.b-iterator.n) l.invariant.1 byte),
      rw now (number-more l.n b (take k c.next.new.self.iter.rest.now) ∙ rw (steps.0, left) at l.invariant.2),
    )

pub returns : goal.returns
returns c =
    let l = c.loop-b in
    let none : take l.b-iterator.n l.b-iterator.iter.rest.now ≡ [] = none_left l.b-iterator.n l.b-iterator.iter.rest.now (λ h. (c.in-None.ensures.steps h).0) in
    rw (none, mul-one, add-zero) at l.invariant.2
