-- What is sent is `octets::put` of the command's bytes, and what its answer makes of the sides. Assumes nothing.
use mathlib.Core.Path.{◌≡◌, refl, sym, ap, ◌∙◌}
use mathlib.Core.Bool.{Bool, true, false}
use mathlib.Core.Logic.{⊎_elim}
use mathlib.Core.List.{List}
use Prim.Native.Nat.{ℕ, ◌+◌, ◌≤◌}
use native.Mathlib.Omega.{arith}
use lib.ListN.{length}
use borrow.Author.Tests.{lt-leb, le-leb}
use Rattle.octets.specs.Lent.{Outcome, outcome}
use Rattle.octets.specs.Promise.{put_at}
use Rattle.octets.proofs.Order.{below-or-above}
use Rattle.octets.proofs.Overwrite.{overwrite-whole}
use Rattle.octets.proofs.Promise.{put-fits, put_refused, front_fits}
use Rattle.std.specs.Prelude.{None, Some, Result}
use Rattle.refusal.specs.declared.Refusal.{Refusal}
use Rattle.refusal.specs.declared.Refusal.TheVariants.{NoRoom}
use Rattle.telnet.specs.declared.Verb.{Verb}
use Rattle.telnet.specs.Event.{negotiation}
use Rattle.telnet.specs.Write.{written, writable}
use Rattle.telnet_writer.specs.Promise.{write_of}
use Rattle.option_sides.specs.declared.Sides.{Sides}
use Rattle.option_sides.specs.declared.Answered.{Answered}
use Rattle.option_verbs.specs.declared.Outgoing.{Outgoing}
use Rattle.option_line.specs.declared.Sent.{Sent}
use Rattle.option_line.specs.Line.{sent, command_length, sent_by}

-- an option command has three bytes
pub command-length : (v : Verb) (o : ℕ) → length (written (negotiation v o)) ≡ command_length
unfolding written
command-length v o = refl

-- and fills three
pub command-filled : (v : Verb) (o : ℕ) (l : List ℕ) → length l ≡ 3 → {w : Result ℕ Refusal} {x : List ℕ} → outcome w x ≡ write_of (negotiation v o) l
    → x ≡ written (negotiation v o)
unfolding write_of writable written
command-filled v o l h e =
    let x = written (negotiation v o) in
    ap (λ (r : Outcome (Result ℕ Refusal)). r.lent) (e ∙ front_fits _ _ x l (omega arith)) ∙ overwrite-whole l x (sym h)

-- by whether the command was put
abbrev answered : Sides → Answered → ℕ → Bool → Sent
answered s a at true = sent a.sides a.refusal (at + command_length)
answered s a at false = sent s (Some NoRoom) at

module _ (s : Sides) (a : Answered) (line : List ℕ) (at : ℕ) where
  pub nothing-sent : a.writes ≡ None → outcome (sent a.sides a.refusal at) line ≡ sent_by s a line at
  unfolding sent_by
  nothing-sent e = rw e

  module _ (q : Outgoing) (e : a.writes ≡ Some q) where
    by-put : let p = put_at (written (negotiation q.verb q.option)) line at in sent_by s a line at ≡ outcome (answered s a at p.answer) p.lent
    unfolding sent_by
    by-put =
        let x = written (negotiation q.verb q.option) in
        let n = command-length q.verb q.option in
        ⊎_elim
        (λ h. rw (e, lt-leb (at + command_length) (length line) h, put_refused x line at (omega (arith, n, h))))
        (λ h. rw (e, le-leb (at + command_length) (length line) h, put-fits x line at (omega (arith, n, h))))
        (below-or-above (length line) (at + command_length))

    pub command-sent : (t : Bool) {l : List ℕ} → outcome t l ≡ put_at (written (negotiation q.verb q.option)) line at
        → outcome (answered s a at t) l ≡ sent_by s a line at
    command-sent t p = rw (by-put, ← p)

-- what was put has its place within the line
pub put-within : (v : Verb) (o : ℕ) (line : List ℕ) (at : ℕ) {l : List ℕ} → outcome true l ≡ put_at (written (negotiation v o)) line at
    → at + command_length ≤ length line
put-within v o line at e =
    let x = written (negotiation v o) in
    ⊎_elim
    (λ h.
    let differ : true ≡ false = ap (λ (r : Outcome Bool). r.answer) (e ∙ put_refused x line at (omega (arith, command-length v o, h))) in
    let none : ◌≡◌ {A = ℕ} 0 1 = cc differ in
    absurd (omega (arith, none)))
    (λ h. h)
    (below-or-above (length line) (at + command_length))
