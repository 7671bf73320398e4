-- Where the bytes that an event carries are: after its lead-in they are the stretch there. Assumes nothing.
use Rattle.std.specs.Prelude.{if◌then◌else◌, None, Some, Ok, Err}
use mathlib.Core.Path.{◌≡◌, refl, sym, ap, subst, ◌∙◌}
use mathlib.Core.Bool.{Bool, true, false}
use mathlib.Core.List.{List, [], ◌∷◌}
use Prim.Native.Nat.{ℕ, ◌+◌, ◌-◌, ◌≤◌, ◌<◌}
use native.Mathlib.Nat.{add-zero}
use native.Mathlib.Omega.{arith}
use lib.Dec.{eqb, ltb}
use lib.ListN.{length, drop, length-append, length-drop}
use lib.Seq.{drop-drop}
use borrow.Author.Tests.{ltb-false}
use Rattle.octets.proofs.Choice.{choice}
use Rattle.octets.specs.Lent.{Outcome, outcome, overwrite}
use Rattle.octets.specs.Promise.{write_front}
use Rattle.octets.proofs.Promise.{front_fits}
use Rattle.telnet.specs.declared.Lead.{Lead}
use Rattle.telnet.specs.declared.Lead.TheVariants.{Faulty, Opens, Negotiates, Simple}
use Rattle.telnet_reader.specs.declared.Found.{Found}
use Rattle.telnet.specs.declared.Kind.TheVariants.{Data}
use Rattle.telnet.specs.Event.{Event, run, command, negotiation, kind, carried_bytes, lead, se, payload_limit}
use Rattle.telnet.specs.Write.{written, doubled}
use Rattle.telnet.specs.Read.{data_run, Front, no_event, found, refused, closed, after_sb, after_verb, after_lead, after_iac, run_or, event_of}
use Rattle.telnet_data.specs.Promise.{count, span}
use Rattle.telnet_reader.specs.Internal.Lead.{lead_in}
use Rattle.telnet.specs.Record.{data_of}
use Rattle.telnet.proofs.Stretch.{doubled-longer}
use Rattle.telnet_data.proofs.Stretches.{span-within, count-within}
use Rattle.telnet_reader.proofs.Places.{look-run}
use Rattle.telnet_reader.specs.Promise.{Answer, event_found, answered, look_at, delivered, read_at}
use Rattle.refusal.specs.declared.Refusal.{Refusal}
use Rattle.refusal.specs.declared.Refusal.TheVariants.{NoRoom, PastTheEnd}

-- an event that is at the front: it takes at least one byte and none past the end, what it carries is the stretch
-- after its lead-in, and its data, if any, the stretch at the front
pub record Stands (bs : List ℕ) (e : Event) : Type 0 where
  pub carried-is : carried_bytes e ≡ data_run (drop (lead_in (kind e)) bs)
  pub data_is : data_of e ≡ data_run bs
  pub positive : 0 < length (written e)
  pub within : length (written e) ≤ length bs

pub data Carries (bs : List ℕ) : Front → Type 0 where
  none : Carries bs no_event
  not_found : {why : Refusal} → Carries bs (refused why)
  carries : {e : Event} → Stands bs e → Carries bs (found e)

closed-carries : (b c o : ℕ) (p rest : List ℕ) → data_run (b ∷ c ∷ o ∷ p) ≡ [] → length rest ≡ length p - length (doubled (data_run p))
    → Carries (b ∷ c ∷ o ∷ p) (closed o (data_run p) rest)
unfolding closed written data_of
closed-carries b c o p [] e l = not_found
closed-carries b c o p (x ∷ []) e l = not_found
closed-carries b c o p (x ∷ y ∷ rest) e l =
    choice (Carries (b ∷ c ∷ o ∷ p)) (eqb y se)
    (λ _. carries (record { carried-is = refl; data_is = sym e; positive = omega arith; within = simp length-append (omega arith) }))
    (λ _. not_found)

led-carries : (l : Lead) (b c : ℕ) (bs : List ℕ) → data_run (b ∷ c ∷ bs) ≡ [] → Carries (b ∷ c ∷ bs) (after_lead l c bs)
unfolding after_lead after_sb after_verb written data_of
led-carries Faulty b c bs e = not_found
led-carries Opens b c [] e = not_found
led-carries Opens b c (o ∷ p) e =
    choice (Carries (b ∷ c ∷ o ∷ p)) (ltb payload_limit (length (data_run p))) (λ _. not_found)
    (λ _. closed-carries b c o p _ e (length-drop (length (doubled (data_run p))) p))
led-carries (Negotiates v) b c [] e = not_found
led-carries (Negotiates v) b c (o ∷ bs) e =
    carries {e = negotiation v o} (record { carried-is = sym e; data_is = sym e; positive = omega arith; within = omega arith })
led-carries Simple b c bs e =
    carries {e = command c} (record { carried-is = sym e; data_is = sym e; positive = omega arith; within = omega arith })

commanded-carries : (b : ℕ) (bs : List ℕ) → data_run (b ∷ bs) ≡ [] → Carries (b ∷ bs) (after_iac bs)
unfolding after_iac
commanded-carries b [] e = not_found
commanded-carries b (c ∷ bs) e = led-carries (lead c) b c bs e

run-carries : (b : ℕ) (bs d : List ℕ) → data_run (b ∷ bs) ≡ d → Carries (b ∷ bs) (run_or d (after_iac bs))
unfolding run_or written data_of span
run-carries b bs [] e = commanded-carries b bs e
run-carries b bs (x ∷ d) e =
    carries {e = run (x ∷ d)}
    (record {
      carried-is = sym e;
      data_is = sym e;
      positive = omega (arith, doubled-longer (x ∷ d));
      within = rw e at (span-within (b ∷ bs));
    })

pub event-carries : (bs : List ℕ) → Carries bs (event_of bs)
unfolding event_of
event-carries [] = none
event-carries (b ∷ bs) = run-carries b bs (data_run (b ∷ bs)) refl

pub event-stands : (bs : List ℕ) (e : Event) → event_of bs ≡ found e → Stands bs e
event-stands bs e f = go (subst (Carries bs) f (event-carries bs))
  where
    go : Carries bs (found e) → Stands bs e
    go (carries s) = s

-- an event that was looked at lies within the bytes, and what it carries is the stretch after its lead-in
abbrev pub Placed : List ℕ → ℕ → Answer → Type 0
Placed s at (Ok None) = Unit {0}
Placed s at (Ok (Some f)) = (at ≤ length s) × (f.length ≡ length (data_run (drop (at + lead_in f.kind) s)))
Placed s at (Err why) = Unit {0}

-- what `read` leaves, by what `look` answers
abbrev pub delivering : List ℕ → ℕ → List ℕ → Answer → Outcome Answer
delivering s at out (Ok None) = outcome (Ok None) out
delivering s at out (Ok (Some f)) = write_front (λ _. Ok (Some f)) (Err NoRoom) (data_run (drop (at + lead_in f.kind) s)) out
delivering s at out (Err why) = outcome (Err why) out

module _ (s : List ℕ) (at : ℕ) where
  answered-placed : at ≤ length s → (f : Front) → Carries (drop at s) f → Placed s at (answered at f)
  unfolding answered
  answered-placed h _ none = tt
  answered-placed h _ not_found = tt
  answered-placed h _ (carries {e = e} c) = (h, ap length (c.carried-is ∙ ap data_run (drop-drop (lead_in (kind e)) at s)))

  pub looked-placed : Placed s at (look_at s at)
  unfolding look_at
  looked-placed = go (ltb (length s) at) refl
    where
      go : (t : Bool) → ltb (length s) at ≡ t → Placed s at (if t then Err PastTheEnd else answered at (event_of (drop at s)))
      go true e = tt
      go false e = answered-placed (ltb-false (length s) at e) (event_of (drop at s)) (event-carries (drop at s))

  delivers : (out : List ℕ) (f : Front) → Carries (drop at s) f → delivered at f out ≡ delivering s at out (answered at f)
  unfolding delivered answered
  delivers out _ none = refl
  delivers out _ not_found = refl
  delivers out _ (carries {e = e} c) = rw (← drop-drop (lead_in (kind e)) at s, ← c.carried-is)

  pub read-delivers : (out : List ℕ) → read_at s at out ≡ delivering s at out (look_at s at)
  unfolding read_at look_at
  read-delivers out = go (ltb (length s) at)
    where
      go : (t : Bool) → (if t then outcome (Err PastTheEnd) out else delivered at (event_of (drop at s)) out)
          ≡ delivering s at out (if t then Err PastTheEnd else answered at (event_of (drop at s)))
      go true = refl
      go false = delivers out (event_of (drop at s)) (event-carries (drop at s))

  -- a run for which there is room
  pub read-run : (out : List ℕ) → 0 < count (drop at s) → count (drop at s) ≤ length out
      → read_at s at out ≡ outcome (event_found Data (count (drop at s)) (at + span (drop at s))) (overwrite out 0 (data_run (drop at s)))
  unfolding count
  read-run out h g =
      let within : at ≤ length s = omega (arith, count-within (drop at s), length-drop at s) in
      read-delivers out ∙ ap (delivering s at out) (look-run s at within h) ∙ rw (add-zero at) (front_fits _ _ (data_run (drop at s)) out g)
