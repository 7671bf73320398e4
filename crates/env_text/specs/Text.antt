-- A name or a value in a payload: the bytes up to a VAR, VALUE or USERVAR, an ESC before each byte 0 to 3.
use Rattle.std.specs.Prelude.{Bool, true, false, List, [], ◌∷◌, ℕ, zero, suc, ◌+◌, ◌-◌, leb, length, take, drop, if◌then◌else◌}
use Rattle.env_text.specs.declared.Text.{Text}
use Rattle.octets.specs.Lent.{Outcome, outcome, overwrite}

-- the bytes of the text without their ESCs, and what comes after it
pub record Cut : Type 0 where
  pub bytes : List ℕ
  pub after : List ℕ

-- a text of some bytes, and what comes after it
abbrev pub cut : (bs l : List ℕ) → Cut
cut bs l = record { bytes = bs; after = l }

-- a byte more
unfoldable pub with_byte : ℕ → Cut → Cut
with_byte b c = cut (b ∷ c.bytes) c.after

-- the text ends before VAR, VALUE, USERVAR, before an ESC that is none, and at the end
unfoldable pub text_of : List ℕ → Cut
text_of [] = cut [] []
text_of (zero ∷ bs) = cut [] (zero ∷ bs)
text_of (suc zero ∷ bs) = cut [] (suc zero ∷ bs)
text_of (suc (suc zero) ∷ []) = cut [] (suc (suc zero) ∷ [])
text_of (suc (suc zero) ∷ b ∷ bs) = if leb b 3 then with_byte b (text_of bs) else cut [] (suc (suc zero) ∷ b ∷ bs)
text_of (suc (suc (suc zero)) ∷ bs) = cut [] (suc (suc (suc zero)) ∷ bs)
text_of (suc (suc (suc (suc b))) ∷ bs) = with_byte (suc (suc (suc (suc b)))) (text_of bs)

-- after a text that is whole comes nothing, or a VAR, VALUE or USERVAR
unfoldable pub ends_text : List ℕ → Bool
ends_text [] = true
ends_text (zero ∷ bs) = true
ends_text (suc zero ∷ bs) = true
ends_text (suc (suc zero) ∷ bs) = false
ends_text (suc (suc (suc zero)) ∷ bs) = true
ends_text (suc (suc (suc (suc b))) ∷ bs) = false

-- the text from a place on: whole, where nothing comes after it, or a VAR, VALUE or USERVAR; its length, and the place
-- after it
unfoldable pub text_at : List ℕ → ℕ → Text
text_at s from =
    let t = text_of (drop from s) in
    record { whole = ends_text t.after; length = length t.bytes; end = length s - length t.after }

-- the first bytes of a text, put at a place of a buffer; where there is no room for them a refusal, and the buffer is
-- as it was
unfoldable pub copy_text : (s : List ℕ) (from count : ℕ) (out : List ℕ) (at : ℕ) → Outcome Bool
copy_text s from count out at =
    if leb (at + count) (length out) then outcome true (overwrite out at (take count (text_of (drop from s)).bytes)) else outcome false out
