-- The lines from a place on, turn by turn: the line of what is there, and then those from the next place on, if
-- there is one. Assumes nothing.
use Rattle.std.specs.Prelude.{Option, None, Some}
use Rattle.std.specs.Result.{result_unwrap_or}
use mathlib.Core.Path.{◌≡◌, refl, sym, ap, ap₂, ◌∙◌, subst}
use mathlib.Core.List.{List, [], ◌++◌, append-nil}
use Prim.Native.Nat.{ℕ, ◌+◌, ◌≤◌, ◌<◌}
use native.Mathlib.Omega.{arith}
use lib.ListN.{length, drop, length-append, length-drop}
use lib.Seq.{drop-drop}
use Rattle.octets.specs.Lent.{overwrite}
use Rattle.octets.proofs.Overwrite.{overwrite-append}
use Rattle.telnet_reader.specs.declared.Found.{Found}
use Rattle.telnet.specs.Read.{Front, no_event, found, refused, event_of}
use Rattle.telnet.specs.Whole.{Reading, reading}
use Rattle.telnet_reader.specs.Promise.{Answer, answered, look_at}
use Rattle.telnet.specs.Theorems.{read_on}
use Rattle.telnet.proofs.Unroll.{unrolled}
use Rattle.telnet_reader.proofs.Places.{looked}
use Rattle.telnet_reader.proofs.Carried.{Carries, none, not_found, carries, event-carries}
use Rattle.telnet_line.specs.Line.{ending_text, answer_text_by, answer_text, line}
use Rattle.telnet_listing.specs.Listing.{lines_from, listing}

abbrev lines_of : ℕ → Reading → List ℕ
lines_of i r = lines_from i r.events r.ending

-- the lines from a place on
unfoldable pub lines_at : List ℕ → ℕ → List ℕ
lines_at s i = lines_of i (reading (drop i s))

pub lines-all : (s : List ℕ) → lines_at s 0 ≡ listing s
unfolding lines_at listing
lines-all s = refl

-- what is left to list after an event, if there is one
abbrev pub after : List ℕ → Option Found → List ℕ
after s None = []
after s (Some f) = lines_at s f.next

-- the event that the reader answers, if it answers one
abbrev pub found_in : Answer → Option Found
found_in r = result_unwrap_or r None

module _ (s : List ℕ) (i : ℕ) (h : i ≤ length s) where
  -- a turn, where the reader answers r, and q is the event in it
  pub turn : {r : Answer} {q : Option Found} → r ≡ look_at s i → found_in r ≡ q → lines_at s i ≡ line i (answer_text r) ++ after s q
  unfolding lines_at lines_from read_on answered ending_text answer_text_by
  turn {r} e g =
      ap (lines_of i) (unrolled (drop i s)) ∙ go (event_of (drop i s))
      ∙ ap (λ a. line i (answer_text a) ++ after s (found_in a)) (sym (e ∙ looked s i h))
      ∙ ap (λ a. line i (answer_text r) ++ after s a) g
    where
      go : (f : Front) → lines_of i (read_on (drop i s) f) ≡ line i (answer_text (answered i f)) ++ after s (found_in (answered i f))
      go no_event = sym (append-nil _)
      go (refused why) = sym (append-nil _)
      go (found e) = rw drop-drop

  pub turn-length : {r : Answer} {q : Option Found} → r ≡ look_at s i → found_in r ≡ q
      → length (lines_at s i) ≡ length (line i (answer_text r)) + length (after s q)
  turn-length {r} {q} e g = ap length (turn e g) ∙ length-append (line i (answer_text r)) (after s q)

  -- a turn puts its line, and then come the lines after it
  pub turn-put : {r : Answer} {q : Option Found} → r ≡ look_at s i → found_in r ≡ q → (b : List ℕ) (at : ℕ) {l : List ℕ} {n : ℕ}
      → at + length (lines_at s i) ≤ length b → l ≡ overwrite b at (line i (answer_text r)) → n ≡ length (line i (answer_text r))
      → overwrite l (at + n) (after s q) ≡ overwrite b at (lines_at s i)
  turn-put {r} {q} e g b at h p k =
      ap₂ (λ u m. overwrite u (at + m) (after s q)) p k
      ∙ overwrite-append b at (line i (answer_text r)) (after s q) (omega (arith, turn-length e g))
      ∙ ap (overwrite b at) (sym (turn e g))

  -- the last turn puts all that is left
  pub last-put : {r : Answer} {q : Option Found} → r ≡ look_at s i → found_in r ≡ q → after s q ≡ [] → (b : List ℕ) (at : ℕ) {l : List ℕ}
      → l ≡ overwrite b at (line i (answer_text r)) → l ≡ overwrite b at (lines_at s i)
  last-put {r} e g z b at p = p ∙ ap (overwrite b at) (sym (turn e g ∙ ap (λ y. line i (answer_text r) ++ y) z ∙ append-nil _))

  -- the next place is further on, and not past the end
  abbrev pub Further : Option Found → Type 0
  Further None = Unit {0}
  Further (Some f) = (i < f.next) × (f.next ≤ length s)

  pub further : {r : Answer} {q : Option Found} → r ≡ look_at s i → found_in r ≡ q → Further q
  unfolding answered
  further e g =
      subst Further (ap found_in (sym (looked s i h) ∙ sym e) ∙ g) (go (event_of (drop i s)) (event-carries (drop i s)))
    where
      go : (f : Front) → Carries (drop i s) f → Further (found_in (answered i f))
      go _ none = tt
      go _ not_found = tt
      go _ (carries p) = (omega (arith, p.positive), omega (arith, p.within, length-drop i s))
