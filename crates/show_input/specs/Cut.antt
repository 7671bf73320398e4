-- A part of an input after its two-byte big-endian length, cut where the input ends (change request No. 1: "the table
-- after its two-byte big-endian length and the payload, each cut where input ends"). With fewer than two bytes the part
-- is empty, and nothing is left after it.
use Rattle.std.specs.Prelude.{ℕ, ◌+◌, ◌*◌, List, [], ◌∷◌, take, drop}

-- the part that the first two bytes announce: that many bytes after them, or as many as there are
unfoldable pub announced_in : List ℕ → List ℕ
announced_in [] = []
announced_in (b ∷ []) = []
announced_in (high ∷ low ∷ rest) = take (high * 256 + low) rest

-- what is left after that part
unfoldable pub left_after : List ℕ → List ℕ
left_after [] = []
left_after (b ∷ []) = []
left_after (high ∷ low ∷ rest) = drop (high * 256 + low) rest
