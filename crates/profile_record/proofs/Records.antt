-- A record at the front of bytes, by the tests of the code in their order, over every shape. Assumes nothing.
use mathlib.Core.Path.{◌≡◌, sym, ap, ◌∙◌}
use mathlib.Core.Bool.{Bool, true, false, ◌&&◌}
use mathlib.Core.List.{List, [], ◌∷◌}
use Prim.Native.Nat.{ℕ, ◌+◌, ◌-◌, ◌*◌, ◌^◌, ◌≤◌, ◌<◌}
use native.Mathlib.Omega.{arith}
use borrow.Author.Tests.{le-leb, lt-leb, lt-ltb, le-ltb, eq-eqb, ne_eqb}
use lib.Dec.{leb, ltb, eqb}
use lib.ListN.{length, get_or, take, drop}
use Rattle.words.specs.BigEndian.{number}
use Rattle.names.specs.Name.{is_raised_name, profile_limit}
use Rattle.profile.specs.Profile.{Shape, body_length, record_length}
use Rattle.profile.specs.Table.{name_length_at, name_at, flags_at, is_record}

-- the number in the first two bytes
number-pair : (bs : List ℕ) → 2 ≤ length bs → number (take 2 bs) ≡ get_or bs 0 0 * 256 + get_or bs 1 0
number-pair [] h = absurd (omega arith)
number-pair (a ∷ []) h = absurd (omega arith)
number-pair (a ∷ b ∷ bs) h = omega arith

-- a shape by two numbers: how long its records are besides their names, and their highest flags
module _ (s : Shape) (fixed highest : ℕ) (size : fixed ≡ record_length s 0) (flags : highest + 1 ≡ 2 ^ s.marks) (bs : List ℕ) where
  pub cut : length bs < fixed + name_length_at bs → is_record s bs ≡ false
  unfolding is_record
  cut h = rw (lt-leb (record_length s (name_length_at bs)) (length bs) (omega (arith, size)))

  module _ (long : fixed + name_length_at bs ≤ length bs) where
    reach : leb (record_length s (name_length_at bs)) (length bs) ≡ true
    reach = le-leb (record_length s (name_length_at bs)) (length bs) (omega (arith, size))

    pub other_length : (get_or bs 0 0 * 256 + get_or bs 1 0 + 2 ≡ fixed + name_length_at bs → ⊥) → is_record s bs ≡ false
    unfolding is_record
    other_length n =
        rw (reach, ne_eqb (number (take 2 bs)) (body_length s (name_length_at bs)) (λ e. n (omega (arith, e, size, number-pair bs (omega (arith, size))))))

    module _ (right : get_or bs 0 0 * 256 + get_or bs 1 0 + 2 ≡ fixed + name_length_at bs) where
      says : eqb (number (take 2 bs)) (body_length s (name_length_at bs)) ≡ true
      says = eq-eqb (number (take 2 bs)) (body_length s (name_length_at bs)) (omega (arith, size, number-pair bs (omega (arith, size))))

      pub other-flag : highest < flags_at bs → is_record s bs ≡ false
      unfolding is_record
      other-flag h = rw (reach, says, le-ltb (flags_at bs) (2 ^ s.marks) (omega (arith, flags)))

      pub by_name : flags_at bs ≤ highest → is_record s bs ≡ is_raised_name profile_limit (name_at bs)
      unfolding is_record
      by_name h = rw (reach, says, lt-ltb (flags_at bs) (2 ^ s.marks) (omega (arith, flags)))

-- the name, as the code lends it
pub name-lent : (bs : List ℕ) (n : ℕ) → n ≡ name_length_at bs → take (4 + n - 4) (drop 4 bs) ≡ name_at bs
name-lent bs n e = let k : 4 + n - 4 ≡ name_length_at bs = omega arith in rw k
