-- A text put at a place of a buffer: what the private functions of `src/words.rt` leave. No public promise rests on
-- this definition.
use Rattle.std.specs.Prelude.{◌≡◌, ℕ, ◌+◌, ◌≤◌, List, length}
use Rattle.octets.specs.Lent.{overwrite}

-- a text of at most `most` bytes, put at a place of a buffer: r is the place after it, and `left` is the buffer
-- afterwards
pub record Put (words : List ℕ) (most : ℕ) (buffer : List ℕ) (at r : ℕ) (left : List ℕ) : Type 0 where
  pub after : r ≡ at + length words
  pub bytes : left ≡ overwrite buffer at words
  pub few : length words ≤ most
