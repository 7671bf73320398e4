-- Texts with a mark before each byte of a range, and what is answered and left where one is put into a buffer.
use Rattle.std.specs.Prelude.{ℕ, ◌+◌, ◌&&◌, List, [], ◌∷◌, leb, length, if◌then◌else◌}
use Rattle.octets.specs.Lent.{Outcome, outcome, overwrite}

-- bytes with a mark before each that lies in a range, its two ends included
unfoldable pub marked : (mark low high : ℕ) → List ℕ → List ℕ
marked mark low high [] = []
marked mark low high (b ∷ bs) = if leb low b && leb b high then mark ∷ b ∷ marked mark low high bs else b ∷ marked mark low high bs

-- such bytes put at a place of a buffer, and the place after them; where they do not fit, the place itself, and the
-- buffer is as it was
unfoldable pub put_marked : (mark low high : ℕ) (bytes buffer : List ℕ) (at : ℕ) → Outcome ℕ
put_marked mark low high bytes buffer at =
    if leb (at + length (marked mark low high bytes)) (length buffer)
    then outcome (at + length (marked mark low high bytes)) (overwrite buffer at (marked mark low high bytes))
    else outcome at buffer
