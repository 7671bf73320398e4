-- Bytes put into a buffer: all of them, or none.
use Rattle.std.specs.Prelude.{ℕ, ◌+◌, List, leb, length, if◌then◌else◌}
use Rattle.octets.specs.Lent.{Outcome, outcome, overwrite}
use Rattle.octets.specs.Promise.{write_front}
use Rattle.show.specs.Hex.{hex_bytes}

-- the bytes of a text of hexadecimal digits at the front of a buffer, and how many; none where they do not fit
abbrev pub hex_into : (text out : List ℕ) → Outcome ℕ
hex_into text out = write_front (λ n. n) 0 (hex_bytes text) out

-- words at a place of a buffer, and the place after them; the buffer and the place as they were where the words do not
-- fit
unfoldable pub placed : (words out : List ℕ) → ℕ → Outcome ℕ
placed words out at = if leb (at + length words) (length out) then outcome (at + length words) (overwrite out at words) else outcome at out
