-- What is proved of the definitions themselves. The proofs are in `proofs/Apart.antt` and `proofs/Order.antt`.
use Rattle.std.specs.Prelude.{◌≡◌, true, false, not, List, ◌⊎◌, ℕ, ◌<◌, T, eqb}
use Rattle.names.specs.Name.{is_name_byte}
use Rattle.names.specs.Order.{precedes}
use Rattle.names.specs.Ebcdic.{ebcdic, substitute}

-- The bytes of names are those whose EBCDIC is not the substitute.
abbrev pub OwnEbcdic : Type 0
OwnEbcdic = (b : ℕ) → b < 256 → not (eqb (ebcdic b) substitute) ≡ is_name_byte b

-- Two bytes of names that differ have EBCDIC that differs.
abbrev pub Apart : Type 0
Apart = (a b : ℕ) → a < 256 → b < 256 → is_name_byte a ≡ true → is_name_byte b ≡ true → ebcdic a ≡ ebcdic b → a ≡ b

-- The order of names is strict and total: no name comes before itself, what comes before a second comes before a third,
-- and of two names one comes before the other or they are the same.
pub record StrictAndTotal : Type 0 where
  pub never-itself : (a : List ℕ) → precedes a a ≡ false
  pub transitive : (a b c : List ℕ) → T (precedes a b) → T (precedes b c) → T (precedes a c)
  pub one_of_three : (a b : List ℕ) → T (precedes a b) ⊎ ((a ≡ b) ⊎ T (precedes b a))
