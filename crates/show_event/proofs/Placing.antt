-- An event written from a place of a line on. Assumes nothing.
use Rattle.std.specs.Prelude.{Result, Ok, Err}
use mathlib.Core.Path.{◌≡◌, refl, sym, ap, subst, ◌∙◌}
use mathlib.Core.Bool.{not}
use mathlib.Core.List.{List, [], ◌∷◌, ◌++◌, append-nil}
use Prim.Native.Nat.{ℕ, ◌-◌, ◌≤◌, ◌<◌}
use native.Mathlib.Omega.{arith}
use lib.ListN.{length, take, drop, length-drop}
use lib.Seq.{drop-length}
use borrow.Author.Tests.{lt-ltb, le-ltb}
use borrow.Author.Rules.{part_to_end}
use borrow.Rule.Slice.PartMut.{put_mid, Post-is}
use Rattle.octets.specs.Lent.{Outcome, outcome}
use Rattle.octets.proofs.Choice.{choice}
use Rattle.octets.proofs.Promise.{front-either}
use Rattle.refusal.specs.declared.Refusal.{Refusal}
use Rattle.telnet.specs.Event.{Event}
use Rattle.telnet.specs.Write.{written, writable}
use Rattle.telnet_writer.specs.Promise.{write_of}
use Rattle.show_event.specs.Sent.{place_after, after_place, sent_at, sent_all}

pub after-the-end : (e : Event) (line : List ℕ) (at : ℕ) → length line < at → outcome at line ≡ sent_at e line at
unfolding sent_at
after-the-end e line at h = rw (lt-ltb (length line) at h) refl

within : (e : Event) (line : List ℕ) (at : ℕ) → at ≤ length line → after_place line at (write_of e (drop at line)) ≡ sent_at e line at
unfolding sent_at
within e line at h = rw (le-ltb (length line) at h) refl

-- the part from the place to the end, as the writer leaves it, put back
pub put_back : (e : Event) (line part : List ℕ) (at : ℕ) (answer r : Result ℕ Refusal)
    → at ≤ length line → outcome answer part ≡ write_of e (take (length line - at) (drop at line)) → answer ≡ r
    → outcome (place_after at r) (put_mid at (length line - at) line part) ≡ sent_at e line at
put_back e line part at answer r h w told =
    ap (λ (l : List ℕ). outcome (place_after at r) (take at line ++ (part ++ l))) (Post-is at (length line) line h ∙ drop-length line)
    ∙ ap (λ (l : List ℕ). outcome (place_after at r) (take at line ++ l)) (append-nil part)
    ∙ ap (after_place line at) (ap (λ a. outcome a part) (sym told) ∙ w ∙ ap (write_of e) (part_to_end line at))
    ∙ within e line at h

-- what is written keeps within what is lent
abbrev pub written_length : Result ℕ Refusal → ℕ
written_length (Ok n) = n
written_length (Err why) = 0

abbrev Within : List ℕ → Outcome (Result ℕ Refusal) → Type 0
Within out o = written_length o.answer ≤ length out

write-within : (e : Event) (out : List ℕ) → Within out (write_of e out)
unfolding write_of
write-within e out =
    choice (Within out) (not (writable e)) (λ _. omega arith)
    (λ _. front-either _ _ (written e) out (Within out) (λ _. omega arith) (λ room. room))

pub wrote-within : (e : Event) (line part : List ℕ) (at : ℕ) (answer r : Result ℕ Refusal)
    → outcome answer part ≡ write_of e (take (length line - at) (drop at line)) → answer ≡ r → written_length r ≤ length line - at
wrote-within e line part at answer r w told =
    subst (λ (n : ℕ). written_length r ≤ n) (length-drop at line)
    (subst (Within (drop at line)) (sym (ap (λ a. outcome a part) (sym told) ∙ w ∙ ap (write_of e) (part_to_end line at))) (write-within e (drop at line)))

-- two events, by what the sending of each answers and leaves
pub both-sent : (e f : Event) (line : List ℕ) (at : ℕ) {r r' : ℕ} {l l' : List ℕ} → outcome r l ≡ sent_at e line at → outcome r' l' ≡ sent_at f l r
    → outcome r' l' ≡ sent_all (e ∷ f ∷ []) line at
unfolding sent_all
both-sent e f line at first second = second ∙ ap (λ (o : Outcome ℕ). sent_at f o.lent o.answer) first
