-- What the private functions find that take a name or a value out of the payload.
use Rattle.std.specs.Prelude.{◌≡◌, Bool, true, false, List, [], ◌∷◌, ℕ, ◌+◌, ◌≤◌, eqb, length, drop, if◌then◌else◌}
use Rattle.env_text.specs.declared.Text.{Text}
use Rattle.env_text.specs.Text.{text_of, ends_text}
use Rattle.env.specs.Variable.{VALUE}
use Rattle.env.specs.Fields.{text, broken, row, row_of}
use Rattle.env.specs.Numbers.{DEFINED, UNDEFINED}
use Rattle.octets.specs.Lent.{overwrite}

-- a VALUE is at the front
unfoldable pub gives_value : List ℕ → Bool
gives_value [] = false
gives_value (b ∷ bs) = eqb b VALUE

-- the mark of the value that is at the front: undefined where there is no VALUE
unfoldable pub mark_at : List ℕ → ℕ
mark_at rest = if gives_value rest then DEFINED else UNDEFINED

-- the text after the first byte of the rest: broken, or whole and put at a place of the buffer
pub record IsTaken (rest bytes₀ : List ℕ) (at : ℕ) (r : Text) (bytes : List ℕ) : Type 0 where
  pub bad : r.whole ≡ false → (row_of (drop 1 rest)).front ≡ broken
  pub good : r.whole ≡ true → row_of (drop 1 rest) ≡ row (text (text_of (drop 1 rest)).bytes) (row_of (drop r.end rest)).fields
  pub mark : r.whole ≡ true → ends_text (drop r.end rest) ≡ true
  pub texts : r.whole ≡ true → bytes ≡ overwrite bytes₀ at (text_of (drop 1 rest)).bytes
  pub count : r.length ≡ length (text_of (drop 1 rest)).bytes
  pub forward : 1 + r.length ≤ r.end
  pub within : r.end ≤ length rest
