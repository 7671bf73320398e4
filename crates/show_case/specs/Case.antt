-- Lines of a text, and of a line what comes before and after its colon.
use Rattle.std.specs.Prelude.{ℕ, ◌+◌, List, [], ◌∷◌, Bool, ltb, eqb, length, drop, if◌then◌else◌}
use Rattle.octets.specs.Find.{up_to}
use Rattle.show.specs.Hex.{hex_bytes}

-- what is there from a place on before the next end of a line, LF; all that is left where there is none
unfoldable pub line_at : List ℕ → ℕ → List ℕ
line_at text at = up_to 10 (drop at text)

-- the place after a line's end, or the end of the text
unfoldable pub after_line : List ℕ → ℕ → ℕ
after_line text at = if ltb (at + length (line_at text at)) (length text) then at + length (line_at text at) + 1 else at + length (line_at text at)

-- a byte at the front of the first of some lines, or a line of its own where there are none
unfoldable pub put_first : ℕ → List (List ℕ) → List (List ℕ)
put_first b [] = (b ∷ []) ∷ []
put_first b (line ∷ more) = (b ∷ line) ∷ more

-- the lines of a text, each without its end
unfoldable pub lines : List ℕ → List (List ℕ)
lines [] = []
lines (b ∷ text) = if eqb b 10 then [] ∷ lines text else put_first b (lines text)

-- what comes before the first colon of a line; all of it where there is none
unfoldable pub title_in : List ℕ → List ℕ
title_in line = up_to 58 line

-- what comes after that colon
unfoldable pub digits_in : List ℕ → List ℕ
digits_in line = drop 1 (drop (length (title_in line)) line)

-- a line without a colon
unfoldable pub is_title : List ℕ → Bool
is_title line = eqb (length (title_in line)) (length line)

-- the bytes of the digits of a line, or none where they are more than some
unfoldable pub case_in : (most : ℕ) (line : List ℕ) → List ℕ
case_in most line = if ltb most (length (hex_bytes (digits_in line))) then [] else hex_bytes (digits_in line)
