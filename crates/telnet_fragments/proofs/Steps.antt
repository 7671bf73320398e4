-- What one step comes to from a mode that calls leave (`step-fine`): one walk through `Whole.step_byte`. Assumes nothing.
use mathlib.Core.Path.{◌≡◌, refl, sym, ap, subst}
use mathlib.Core.Bool.{Bool, true, false}
use mathlib.Core.Logic.{◌⊎◌, inl, inr}
use mathlib.Core.List.{List, [], ◌∷◌}
use Prim.Native.Nat.{ℕ, ◌≤◌}
use native.Mathlib.Omega.{arith}
use lib.Dec.{eqb, ltb}
use lib.ListN.{length, length-append}
use borrow.Author.Tests.{ltb-true}
use Rattle.telnet.specs.declared.Verb.{Verb}
use Rattle.telnet.specs.declared.Lead.{Lead}
use Rattle.telnet.specs.declared.Lead.TheVariants.{Faulty, Opens, Negotiates, Simple}
use Rattle.telnet.specs.Event.{Event, run, command, negotiation, subnegotiation, carried_bytes, lead, iac, se, payload_limit}
use Rattle.telnet.specs.Whole.{Mode, data', iac_seen, choosing, opening, payload, closing, failed, Step, step_byte, goes, ended, leads, grown}
use Rattle.telnet_fragments.specs.Call.{run_of, rested, has_failed, ends}
use Rattle.telnet_fragments.specs.declared.Fault.{Fault}
use Rattle.telnet_fragments.specs.declared.Fault.TheVariants.{Undoubled, TooLong, BadCommand}
use Rattle.telnet_fragments.specs.Promise.{fault_refusal, carried_of}
use Rattle.octets.proofs.Choice.{choice, never}
use Rattle.refusal.specs.declared.Refusal.{Refusal}

-- the modes that calls from a fresh reader leave: with no run, and failed by a fault alone
pub data Reached : Mode → Type 0 where
  at-data : Reached (data' [])
  at-iac-seen : Reached (iac_seen [])
  at-choosing : {v : Verb} → Reached (choosing v)
  at-opening : Reached opening
  at-payload : {o : ℕ} {p : List ℕ} → Reached (payload o p)
  at-closing : {o : ℕ} {p : List ℕ} → Reached (closing o p)
  at-failed : {e : Refusal} → (f : Fault) × (e ≡ fault_refusal f) → Reached (failed e)

-- no event, or one that is no run
abbrev pub Single : List Event → Type 0
Single [] = Unit {0}
Single (run r ∷ es) = ⊥
Single (command c ∷ es) = es ≡ []
Single (negotiation v o ∷ es) = es ≡ []
Single (subnegotiation o p ∷ es) = es ≡ []

-- one event that is no run
abbrev pub is_one : List Event → Bool
is_one [] = false
is_one (e ∷ f ∷ es) = false
is_one (run d ∷ []) = false
is_one (command c ∷ []) = true
is_one (negotiation v o ∷ []) = true
is_one (subnegotiation o p ∷ []) = true

-- a payload is no longer than a subnegotiation may have
abbrev pub Within : Mode → Type 0
Within (data' r) = Unit {0}
Within (iac_seen r) = Unit {0}
Within (choosing v) = Unit {0}
Within opening = Unit {0}
Within (payload o p) = length p ≤ payload_limit
Within (closing o p) = length p ≤ payload_limit
Within (failed e) = Unit {0}

-- a mode that calls leave has no run to give out
pub reached-rested : {m : Mode} → Reached m → rested m ≡ m
unfolding rested
reached-rested at-data = refl
reached-rested at-iac-seen = refl
reached-rested at-choosing = refl
reached-rested at-opening = refl
reached-rested at-payload = refl
reached-rested at-closing = refl
reached-rested (at-failed h) = refl

reached-run : {m : Mode} → Reached m → run_of m ≡ []
unfolding run_of
reached-run at-data = refl
reached-run at-iac-seen = refl
reached-run at-choosing = refl
reached-run at-opening = refl
reached-run at-payload = refl
reached-run at-closing = refl
reached-run (at-failed h) = refl

-- what a step comes to; `w` is what is known of the payload before it
pub record Fine (w : Type 0) (s : Step) : Type 0 where
  pub rests : Reached (rested s.mode)
  pub stops : ends s.completes s.mode ≡ true → Reached s.mode
  -- it completes nothing, or one event without a fault
  pub single : Single s.completes
  pub one : ((is_one s.completes ≡ true) × (has_failed s.mode ≡ false)) ⊎ (s.completes ≡ [])
  -- it gives a byte of data at most, and no longer payload than may be
  pub short : length (run_of s.mode) ≤ 1
  pub modest : w → Within (rested s.mode) × (length (carried_of s.completes) ≤ payload_limit)

-- a step that completes nothing and leads to a mode that calls leave
leads-to : {w : Type 0} {m : Mode} → Reached m → (w → Within m) → Fine w (goes [] m)
unfolding carried_of
leads-to h f =
    let e = reached-rested h in
    record {
      rests = subst Reached (sym e) h;
      stops = λ _. h;
      single = tt;
      one = inr refl;
      short = omega (arith, ap length (reached-run h));
      modest = λ x. (subst Within (sym e) (f x), omega arith);
    }

-- one that gives a byte of data
gives-byte : {w : Type 0} (b : ℕ) → Fine w (goes [] (data' (b ∷ [])))
unfolding rested ends has_failed run_of carried_of
gives-byte b = record {
  rests = at-data;
  stops = λ e. never e;
  single = tt;
  one = inr refl;
  short = omega arith;
  modest = λ _. (tt, omega arith);
}

-- and one that completes an event
completes-event : {w : Type 0} (e : Event) → Single (e ∷ []) → is_one (e ∷ []) ≡ true → (w → length (carried_bytes e) ≤ payload_limit)
    → Fine w (goes (e ∷ []) (data' []))
unfolding rested has_failed run_of carried_of
completes-event e h k f = record {
  rests = at-data;
  stops = λ _. at-data;
  single = h;
  one = inl (k, refl);
  short = omega arith;
  modest = λ x. (tt, f x);
}

grown-fine : {w : Type 0} (o : ℕ) (p : List ℕ) (b : ℕ) → Fine w (grown o p b)
unfolding grown
grown-fine {w = w} o p b =
    choice (Fine w) (ltb (length p) payload_limit)
    (λ e. leads-to at-payload (λ _. omega (arith, length-append p (b ∷ []), ltb-true (length p) payload_limit e)))
    (λ _. leads-to (at-failed (TooLong, refl)) (λ _. tt))

leads-fine : {w : Type 0} (l : Lead) (b : ℕ) → Fine w (leads [] l b)
unfolding leads
leads-fine Faulty b = leads-to (at-failed (BadCommand, refl)) (λ _. tt)
leads-fine Opens b = leads-to at-opening (λ _. tt)
leads-fine (Negotiates v) b = leads-to at-choosing (λ _. tt)
leads-fine Simple b = completes-event (command b) refl refl (λ _. omega arith)

pub step-fine : {m : Mode} (b : ℕ) → Reached m → Fine (Within m) (step_byte m b)
unfolding step_byte ended
step-fine b at-data = choice (Fine (Unit {0})) (eqb b iac) (λ _. leads-to at-iac-seen (λ _. tt)) (λ _. gives-byte b)
step-fine b at-iac-seen = choice (Fine (Unit {0})) (eqb b iac) (λ _. gives-byte b) (λ _. leads-fine (lead b) b)
step-fine b (at-choosing {v = v}) = completes-event (negotiation v b) refl refl (λ _. omega arith)
step-fine b at-opening = leads-to at-payload (λ _. omega arith)
step-fine b (at-payload {o = o} {p = p}) =
    choice (Fine (length p ≤ payload_limit)) (eqb b iac) (λ _. leads-to at-closing (λ h. h)) (λ _. grown-fine o p b)
step-fine b (at-closing {o = o} {p = p}) =
    choice (Fine (length p ≤ payload_limit)) (eqb b iac) (λ _. grown-fine o p b)
    (λ _. choice (Fine (length p ≤ payload_limit)) (eqb b se)
    (λ _. completes-event (subnegotiation o p) refl refl (λ h. h))
    (λ _. leads-to (at-failed (Undoubled, refl)) (λ _. tt)))
step-fine b (at-failed h) = leads-to (at-failed h) (λ _. tt)
