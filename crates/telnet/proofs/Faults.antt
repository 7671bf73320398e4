-- A fault stays whatever comes after it (`first-fault-decides`, the theorem `Theorems.FirstFaultDecides`): every
-- refusal but 1 is that of a mode which no byte leaves. Assumes nothing.
use mathlib.Core.Path.{◌≡◌, sym, ap, ◌∙◌}
use mathlib.Core.List.{List, [], ◌∷◌, ◌++◌}
use Prim.Native.Nat.{ℕ}
use Rattle.refusal.specs.declared.Refusal.{Refusal}
use Rattle.refusal.specs.declared.Refusal.TheVariants.{CutShort}
use Rattle.refusal.specs.Refusal.{number}
use Rattle.telnet.specs.Read.{Front, no_event, found, refused, event_of}
use Rattle.telnet.specs.Whole.{Mode, data', iac_seen, choosing, opening, payload, closing, failed, refusal}
use Rattle.telnet.specs.Whole.{Reading, reads, before, step_byte, stops, reading_from, reading}
use Rattle.telnet.specs.Theorems.{read_on, FirstFaultDecides}
use Rattle.telnet.proofs.Unroll.{stays-failed, unrolled}

module _ (why : Refusal) (late : why ≡ CutShort → ⊥) where
  -- where the bytes end in a fault, the reader has failed already
  failed-already : (m : Mode) (more : List ℕ) → (stops m).ending ≡ refusal why → reading_from m more ≡ stops m
  unfolding stops
  failed-already (data' r) more e = cc
  failed-already (iac_seen r) more e = absurd (late cc)
  failed-already (choosing v) more e = absurd (late cc)
  failed-already opening more e = absurd (late cc)
  failed-already (payload o p) more e = absurd (late cc)
  failed-already (closing o p) more e = absurd (late cc)
  failed-already (failed k) more e = stays-failed k more

  from-mode : (m : Mode) (bs more : List ℕ) → (reading_from m bs).ending ≡ refusal why
      → reading_from m (bs ++ more) ≡ reading_from m bs
  unfolding reading_from
  from-mode m [] more e = failed-already m more e
  from-mode m (b ∷ bs) more e = ap (before (step_byte m b).completes) (from-mode (step_byte m b).mode bs more e)

  stream-stays : (bs more : List ℕ) → (reading bs).ending ≡ refusal why → reading (bs ++ more) ≡ reading bs
  unfolding reading
  stream-stays bs more e = from-mode (data' []) bs more e

  -- only a fault at the front is read as no event and that fault
  only-refused : (bs : List ℕ) (f : Front) → read_on bs f ≡ reads [] (refusal why) → f ≡ refused why
  unfolding read_on
  only-refused bs no_event e = let how = ap (λ (r : Reading). r.ending) e in cc
  only-refused bs (found x) e = let read = ap (λ (r : Reading). r.events) e in cc
  only-refused bs (refused k) e = let how = ap (λ (r : Reading). r.ending) e in cc

  event-stays : (bs more : List ℕ) → event_of bs ≡ refused why → event_of (bs ++ more) ≡ refused why
  unfolding read_on
  event-stays bs more e =
      let read : reading bs ≡ reads [] (refusal why) = rw e at (unrolled bs) in
      only-refused (bs ++ more) (event_of (bs ++ more))
      (sym (unrolled (bs ++ more)) ∙ stream-stays bs more (ap (λ (r : Reading). r.ending) read) ∙ read)

pub first-fault-decides : FirstFaultDecides
first-fault-decides bs more why fault =
    let late : why ≡ CutShort → ⊥ = λ e. fault (ap number e) in
    record { event = event-stays why late bs more; stream = stream-stays why late bs more }
