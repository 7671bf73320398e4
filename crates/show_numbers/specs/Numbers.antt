-- Numbers of two bytes, the higher first, and what the functions of this crate promise.
use Rattle.std.specs.Prelude.{ℕ, ◌+◌, ◌*◌, List, [], ◌∷◌, eqb, if◌then◌else◌}
use Rattle.octets.specs.Lent.{Outcome}
use Rattle.octets.specs.Promise.{write_front}

-- the number of two bytes; FFFF stands for the largest that a machine word has
unfoldable pub number_of : (high low : ℕ) → ℕ
number_of high low = if eqb (high * 256 + low) 65535 then 18446744073709551615 else high * 256 + low

-- the number at the front; 0 where there are not two bytes
unfoldable pub number_in : List ℕ → ℕ
number_in [] = 0
number_in (high ∷ []) = 0
number_in (high ∷ low ∷ rest) = number_of high low

-- the numbers of pairs; a byte that is left over says none
unfoldable pub numbers_of : List ℕ → List ℕ
numbers_of [] = []
numbers_of (high ∷ []) = []
numbers_of (high ∷ low ∷ rest) = number_of high low ∷ numbers_of rest

-- the numbers of bytes at the front of a list, and how many; none where they do not fit
abbrev pub numbers_into : (bytes list : List ℕ) → Outcome ℕ
numbers_into bytes list = write_front (λ n. n) 0 (numbers_of bytes) list
