-- What the private functions find that scan a text: the width of its first byte, and how far it goes.
use Rattle.std.specs.Prelude.{◌≡◌, List, [], ℕ, ◌+◌, ◌-◌, ◌≤◌, ◌<◌, length, get_or, drop}
use Rattle.env_text.specs.declared.Extent.{Extent}
use Rattle.env_text.specs.Text.{cut, with_byte, text_of}

-- the first byte of the text at a place takes w bytes, an ESC among them; none where the text is over
pub record IsWidth (s : List ℕ) (i w : ℕ) : Type 0 where
  pub within : 0 < w → i + w ≤ length s
  pub over : w ≡ 0 → text_of (drop i s) ≡ cut [] (drop i s)
  pub more : 0 < w → text_of (drop i s) ≡ with_byte (get_or s (i + w - 1) 0) (text_of (drop (i + w) s))

-- the text from a place on: its length without ESCs, and the place after it
pub record IsExtent (s : List ℕ) (from : ℕ) (e : Extent) : Type 0 where
  pub count : e.length ≡ length (text_of (drop from s)).bytes
  pub rest : drop e.end s ≡ (text_of (drop from s)).after
  pub within : e.end ≤ length s
