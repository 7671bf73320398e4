-- Laws of a VALUE at the front of bytes, and of a text that was found and put into the buffer. Assumes nothing.
use mathlib.Core.Path.{◌≡◌, refl, sym, ◌∙◌}
use mathlib.Core.Bool.{Bool, true, false}
use mathlib.Core.List.{List, [], ◌∷◌}
use Prim.Native.Nat.{ℕ, ◌+◌, ◌≤◌, ◌<◌}
use native.Mathlib.Omega.{arith}
use lib.Dec.{eqb}
use lib.ListN.{length, get_or, drop}
use Rattle.env_variables.specs.Internal.Texts.{gives_value, IsTaken}
use Rattle.env_text.specs.declared.Text.{Text}
use Rattle.env_text.specs.Text.{text_of, text_at, copy_text}
use Rattle.env_text.proofs.Copying.{copy-left}
use Rattle.env_text.proofs.Standing.{Scanned, whole-text, bad-text, scanned, Placed, placed}
use Rattle.octets.specs.Lent.{outcome, overwrite}

-- a VALUE at the front
pub none-given : (l : List ℕ) → length l ≡ 0 → gives_value l ≡ false
unfolding gives_value
none-given [] h = refl
none-given (b ∷ bs) h = absurd (omega arith)

pub given-at : (l : List ℕ) → 0 < length l → gives_value l ≡ eqb (get_or l 0 0) 1
unfolding gives_value
given-at [] h = absurd (omega arith)
given-at (b ∷ bs) h = refl

pub gives-some : (l : List ℕ) → gives_value l ≡ true → 0 < length l
unfolding gives_value
gives-some [] e = let z : ◌≡◌ {A = ℕ} 0 1 = cc in omega arith
gives-some (b ∷ bs) e = omega arith

-- the text after the first byte, found and copied
pub taken : (rest bytes₀ : List ℕ) (at : ℕ) (t : Text) {b : Bool} {bytes : List ℕ} → 0 < length rest → at + length rest ≤ length bytes₀
    → t ≡ text_at rest 1 → outcome b bytes ≡ copy_text rest 1 t.length bytes₀ at → IsTaken rest bytes₀ at t bytes
unfolding text_at
taken rest bytes₀ at t {bytes = bytes} h room found e = rw found (by (scanned (drop 1 rest)))
  where
    is : Placed rest 1
    is = placed rest 1 (omega arith)

    put : bytes ≡ overwrite bytes₀ at (text_of (drop 1 rest)).bytes
    put = copy-left rest 1 bytes₀ at (omega (arith, is.forward, is.within)) (rw found at e)

    by : Scanned (drop 1 rest) → IsTaken rest bytes₀ at (text_at rest 1) bytes
    by (whole-text m r) = record {
      bad = λ z. let no : true ≡ false = sym m ∙ z in cc;
      good = λ z. rw is.rest r;
      mark = λ z. rw is.rest m;
      texts = λ z. put;
      count = refl;
      forward = is.forward;
      within = is.within;
    }
    by (bad-text m r) = record {
      bad = λ z. r;
      good = λ z. let no : false ≡ true = sym m ∙ z in cc;
      mark = λ z. let no : false ≡ true = sym m ∙ z in cc;
      texts = λ z. put;
      count = refl;
      forward = is.forward;
      within = is.within;
    }
