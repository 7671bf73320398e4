-- The decimal numeral of a number in ASCII, the most significant digit first, with no leading zero.
use Rattle.std.specs.Prelude.{ℕ, zero, suc, ◌+◌, ◌/◌, ◌%◌, List, [], ◌∷◌, ◌++◌}

-- the ASCII code of a digit, from '0' on
abbrev pub digit : ℕ → ℕ
digit d = 48 + d

-- the digits of a number up to its highest that is not zero; the first argument bounds how many
unfoldable pub digits : ℕ → ℕ → List ℕ
digits zero n = []
digits (suc k) zero = []
digits (suc k) (suc m) = digits k (suc m / 10) ++ digit (suc m % 10) ∷ []

-- zero is a digit by itself; a number n above zero has at most n digits
unfoldable pub decimal : ℕ → List ℕ
decimal zero = digit 0 ∷ []
decimal (suc m) = digits (suc m) (suc m)
