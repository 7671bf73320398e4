-- A list cut into pieces of one length, as section 5.2 of FIPS 180-4 parses a padded message into blocks and a block
-- into words.
use Rattle.std.specs.Prelude.{ℕ, zero, suc, ◌/◌, List, [], ◌∷◌, map, length, take, drop}
use Rattle.words.specs.BigEndian.{number}

-- the first n pieces of k
unfoldable pub pieces : ℕ → ℕ → List ℕ → List (List ℕ)
pieces zero k l = []
pieces (suc n) k l = take k l ∷ pieces n k (drop k l)

-- all pieces of k; what is left after the last whole one is in none
unfoldable pub cut : ℕ → List ℕ → List (List ℕ)
cut k l = pieces (length l / k) k l

-- the words of k bytes that bytes hold
unfoldable pub words_of : ℕ → List ℕ → List ℕ
words_of k l = map number (cut k l)
