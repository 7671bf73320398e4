-- Bytes put into a buffer: all of them, or none.
use Rattle.std.specs.Prelude.{ℕ, ◌+◌, Bool, true, false, List, leb, ltb, length, if◌then◌else◌}
use Rattle.octets.specs.Lent.{Outcome, outcome, overwrite}

-- bytes put at a place of a buffer; where they do not fit, a refusal, and the buffer is as it was
unfoldable pub put_at : (bytes buffer : List ℕ) → ℕ → Outcome Bool
put_at bytes buffer at = if leb (at + length bytes) (length buffer) then outcome true (overwrite buffer at bytes) else outcome false buffer

-- bytes written to the front of a buffer, told by how many they are; where they do not fit, another answer, and the
-- buffer is as it was
unfoldable pub write_front : {A : Type 0} → (ℕ → A) → A → List ℕ → List ℕ → Outcome A
write_front wrote short bytes buffer =
    if ltb (length buffer) (length bytes) then outcome short buffer else outcome (wrote (length bytes)) (overwrite buffer 0 bytes)
