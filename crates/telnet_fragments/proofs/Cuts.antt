-- A call and what is read after it are what is read at once (`called-read`), and what calls leave (`called-sound`,
-- `called-mode`). Assumes nothing.
use Rattle.std.specs.Prelude.{if◌then◌else◌, None, Some}
use mathlib.Core.Path.{◌≡◌, refl, sym, ap, ◌∙◌}
use mathlib.Core.Bool.{Bool, true, false}
use mathlib.Core.Logic.{◌⊎◌, inl, inr}
use mathlib.Core.List.{List, [], ◌∷◌, ◌++◌, append-nil, append_assoc}
use Prim.Native.Nat.{ℕ, suc, ◌≤◌, ◌<◌}
use native.Mathlib.Omega.{arith}
use lib.Dec.{eqb, ltb}
use lib.ListN.{length, take, length-take}
use lib.Seq.{append_snoc, take-take}
use Rattle.telnet.specs.declared.Verb.{Verb}
use Rattle.telnet.specs.declared.Lead.{Lead}
use Rattle.telnet.specs.declared.Lead.TheVariants.{Faulty, Opens, Negotiates, Simple}
use Rattle.telnet.specs.Event.{Event, run, command, negotiation, subnegotiation, lead, iac, se, payload_limit}
use Rattle.telnet.specs.Whole.{Mode, data', iac_seen, choosing, opening, payload, closing, failed, Step, step_byte, goes, ended, leads, grown, stops}
use Rattle.telnet.specs.Whole.{Reading, reads, before, reading_from}
use Rattle.telnet.proofs.Unroll.{stays-failed}
use Rattle.telnet_fragments.specs.Call.{Call, run_of, rested, has_failed, ends, takes, given, called, call_limit, refusal_of}
use Rattle.telnet_fragments.specs.declared.Fault.{Fault}
use Rattle.telnet_fragments.specs.Promise.{fault_refusal}
use Rattle.telnet_fragments.specs.Joined.{joins, joined}
use Rattle.telnet_fragments.specs.Theorems.{mode_after}
use Rattle.telnet_fragments.proofs.Steps.{Reached, at-data, at-iac-seen, at-choosing, at-opening, at-payload, at-closing, at-failed, Single, step-fine, reached-rested}
use Rattle.octets.proofs.Choice.{choice}
use Rattle.refusal.specs.declared.Refusal.{Refusal}
use Rattle.refusal.specs.declared.Refusal.TheVariants.{BadCommand, Undoubled, PayloadTooLong}

-- data in front of a reading
abbrev pub in_front : List ℕ → Reading → Reading
in_front r x = reads (joins r x.events) x.ending

joins-append : (r x : List ℕ) (es : List Event) → joins (r ++ x) es ≡ joins r (joins x es)
unfolding joins
joins-append [] x es = refl
joins-append (d ∷ ds) [] es = ap (λ l. joins l es) (append-nil (d ∷ ds))
joins-append (d ∷ ds) (y ∷ ys) [] = refl
joins-append (d ∷ ds) (y ∷ ys) (run f ∷ es) = ap (λ l. run l ∷ es) (append_assoc (d ∷ ds) (y ∷ ys) f)
joins-append (d ∷ ds) (y ∷ ys) (command c ∷ es) = refl
joins-append (d ∷ ds) (y ∷ ys) (negotiation v o ∷ es) = refl
joins-append (d ∷ ds) (y ∷ ys) (subnegotiation o p ∷ es) = refl

joins-ended : (r x : List ℕ) → joins r (ended x) ≡ ended (r ++ x)
unfolding joins ended
joins-ended [] x = refl
joins-ended (d ∷ ds) [] = sym (ap ended (append-nil (d ∷ ds)))
joins-ended (d ∷ ds) (y ∷ ys) = refl

-- events that begin with no run
abbrev Breaks : List Event → Type 0
Breaks [] = Unit {0}
Breaks (run r ∷ es) = ⊥
Breaks (command c ∷ es) = Unit {0}
Breaks (negotiation v o ∷ es) = Unit {0}
Breaks (subnegotiation o p ∷ es) = Unit {0}

joins-break : (r x : List ℕ) (es : List Event) → Breaks es → ended (r ++ x) ++ es ≡ joins r (ended x ++ es)
unfolding joins ended
joins-break [] x es h = refl
joins-break (d ∷ ds) [] [] h = ap (λ l. ended l ++ []) (append-nil (d ∷ ds))
joins-break (d ∷ ds) [] (run f ∷ es) h = absurd h
joins-break (d ∷ ds) [] (command c ∷ es) h = ap (λ l. ended l ++ (command c ∷ es)) (append-nil (d ∷ ds))
joins-break (d ∷ ds) [] (negotiation v o ∷ es) h = ap (λ l. ended l ++ (negotiation v o ∷ es)) (append-nil (d ∷ ds))
joins-break (d ∷ ds) [] (subnegotiation o p ∷ es) h = ap (λ l. ended l ++ (subnegotiation o p ∷ es)) (append-nil (d ∷ ds))
joins-break (d ∷ ds) (y ∷ ys) es h = refl

-- what is read after a command's beginning begins with no run
abbrev Breaking : Reading → Type 0
Breaking r = Breaks r.events

failed-breaks : (e : Refusal) (bs : List ℕ) → Breaking (reading_from (failed e) bs)
failed-breaks e bs = rw (stays-failed e bs) tt

mutual
  unfolding reading_from step_byte stops grown

  payload-breaks : (bs : List ℕ) (o : ℕ) (p : List ℕ) → Breaking (reading_from (payload o p) bs)
  payload-breaks [] o p = tt
  payload-breaks (b ∷ bs) o p =
      choice (λ (s : Step). Breaking (before s.completes (reading_from s.mode bs))) (eqb b iac)
      (λ _. closing-breaks bs o p)
      (λ _. choice (λ (s : Step). Breaking (before s.completes (reading_from s.mode bs))) (ltb (length p) payload_limit)
      (λ _. payload-breaks bs o (p ++ b ∷ []))
      (λ _. failed-breaks PayloadTooLong bs))

  closing-breaks : (bs : List ℕ) (o : ℕ) (p : List ℕ) → Breaking (reading_from (closing o p) bs)
  closing-breaks [] o p = tt
  closing-breaks (b ∷ bs) o p =
      choice (λ (s : Step). Breaking (before s.completes (reading_from s.mode bs))) (eqb b iac)
      (λ _. choice (λ (s : Step). Breaking (before s.completes (reading_from s.mode bs))) (ltb (length p) payload_limit)
      (λ _. payload-breaks bs o (p ++ b ∷ []))
      (λ _. failed-breaks PayloadTooLong bs))
      (λ _. choice (λ (s : Step). Breaking (before s.completes (reading_from s.mode bs))) (eqb b se)
      (λ _. tt)
      (λ _. failed-breaks Undoubled bs))

opening-breaks : (bs : List ℕ) → Breaking (reading_from opening bs)
unfolding reading_from step_byte stops
opening-breaks [] = tt
opening-breaks (b ∷ bs) = payload-breaks bs b []

choosing-breaks : (v : Verb) (bs : List ℕ) → Breaking (reading_from (choosing v) bs)
unfolding reading_from step_byte stops
choosing-breaks v [] = tt
choosing-breaks v (b ∷ bs) = tt

-- a command's beginning, after a run
led-carried : (l : Lead) (b : ℕ) (bs r x : List ℕ)
    → before (leads (ended (r ++ x)) l b).completes (reading_from (leads (ended (r ++ x)) l b).mode bs)
    ≡ in_front r (before (leads (ended x) l b).completes (reading_from (leads (ended x) l b).mode bs))
unfolding leads
led-carried Faulty b bs r x = rw (joins-break r x (reading_from (failed BadCommand) bs).events (failed-breaks BadCommand bs))
led-carried Opens b bs r x = rw (joins-break r x (reading_from opening bs).events (opening-breaks bs))
led-carried (Negotiates v) b bs r x = rw (joins-break r x (reading_from (choosing v) bs).events (choosing-breaks v bs))
led-carried Simple b bs r x =
    rw (append_snoc (ended (r ++ x)) (command b), append_snoc (ended x) (command b), joins-break r x (command b ∷ (reading_from (data' []) bs).events) tt)

-- a run may as well be given out before
mutual
  unfolding reading_from step_byte stops

  data-carried : (bs r x : List ℕ) → reading_from (data' (r ++ x)) bs ≡ in_front r (reading_from (data' x) bs)
  data-carried [] r x = rw (joins-ended r x)
  data-carried (b ∷ bs) r x = go (eqb b iac) (iac-seen-carried bs r x) (data-carried bs r (x ++ b ∷ []))
    where
      on : Step → Reading
      on s = before s.completes (reading_from s.mode bs)

      go : (t : Bool) → reading_from (iac_seen (r ++ x)) bs ≡ in_front r (reading_from (iac_seen x) bs)
          → reading_from (data' (r ++ (x ++ b ∷ []))) bs ≡ in_front r (reading_from (data' (x ++ b ∷ [])) bs)
          → on (if t then goes [] (iac_seen (r ++ x)) else goes [] (data' ((r ++ x) ++ b ∷ [])))
          ≡ in_front r (on (if t then goes [] (iac_seen x) else goes [] (data' (x ++ b ∷ []))))
      go true e d = e
      go false e d = rw append_assoc d

  iac-seen-carried : (bs r x : List ℕ) → reading_from (iac_seen (r ++ x)) bs ≡ in_front r (reading_from (iac_seen x) bs)
  iac-seen-carried [] r x = rw (joins-ended r x)
  iac-seen-carried (b ∷ bs) r x = go (eqb b iac) (data-carried bs r (x ++ b ∷ [])) (led-carried (lead b) b bs r x)
    where
      on : Step → Reading
      on s = before s.completes (reading_from s.mode bs)

      go : (t : Bool) → reading_from (data' (r ++ (x ++ b ∷ []))) bs ≡ in_front r (reading_from (data' (x ++ b ∷ [])) bs)
          → on (leads (ended (r ++ x)) (lead b) b) ≡ in_front r (on (leads (ended x) (lead b) b))
          → on (if t then goes [] (data' ((r ++ x) ++ b ∷ [])) else leads (ended (r ++ x)) (lead b) b)
          ≡ in_front r (on (if t then goes [] (data' (x ++ b ∷ [])) else leads (ended x) (lead b) b))
      go true d l = rw append_assoc d
      go false d l = l

run-carried : (m : Mode) (bs : List ℕ) → reading_from m bs ≡ in_front (run_of m) (reading_from (rested m) bs)
unfolding run_of rested joins
run-carried (data' r) bs = rw append-nil at (data-carried bs r [])
run-carried (iac_seen r) bs = rw append-nil at (iac-seen-carried bs r [])
run-carried (choosing v) bs = refl
run-carried opening bs = refl
run-carried (payload o p) bs = refl
run-carried (closing o p) bs = refl
run-carried (failed e) bs = refl

-- what a call gave, in front of what is read after it
abbrev pub after_call : Call → List ℕ → Reading
after_call c rest = in_front c.run (before c.event (reading_from c.mode rest))

pub none-completed : (es : List Event) (m : Mode) → ends es m ≡ false → es ≡ []
unfolding ends
none-completed [] m e = refl
none-completed (x ∷ es) m e = cc

pub given-read : (bs : List ℕ) (m : Mode) (rest : List ℕ) → reading_from m (take (given m bs).taken bs ++ rest) ≡ after_call (given m bs) rest
unfolding given takes joins reading_from
given-read [] m rest = refl
given-read (b ∷ bs) m rest =
    let es = (step_byte m b).completes in
    let m' = (step_byte m b).mode in
    let c = given (rested m') bs in
    let x = take c.taken bs ++ rest in
    let after = c.event ++ (reading_from c.mode rest).events in
    choice (λ (k : Call). reading_from m (take k.taken (b ∷ bs) ++ rest) ≡ after_call k rest) (ends es m')
    (λ _. refl)
    (λ e. ap (λ (l : List Event). before l (reading_from m' x)) (none-completed es m' e)
    ∙ run-carried m' x
    ∙ ap (in_front (run_of m')) (given-read bs (rested m') rest)
    ∙ ap (λ (l : List Event). reads l (reading_from c.mode rest).ending) (sym (joins-append (run_of m') c.run after)))

pub given-within : (bs : List ℕ) (m : Mode) → (given m bs).taken ≤ length bs
unfolding given takes
given-within [] m = omega arith
given-within (b ∷ bs) m =
    choice (λ (k : Call). k.taken ≤ suc (length bs)) (ends (step_byte m b).completes (step_byte m b).mode)
    (λ _. omega arith)
    (λ _. omega (arith, given-within bs (rested (step_byte m b).mode)))

pub called-within : (m : Mode) (bs : List ℕ) → (called m bs).taken ≤ length bs
unfolding called
called-within m bs =
    choice (λ (k : Call). k.taken ≤ length bs) (has_failed m)
    (λ _. omega arith)
    (λ _. omega (arith, given-within (take call_limit bs) m, length-take call_limit bs))

-- a call and what is read after it are what is read at once
pub called-read : (m : Mode) (bs rest : List ℕ) → reading_from m (take (called m bs).taken bs ++ rest) ≡ after_call (called m bs) rest
unfolding called joins
called-read m bs rest =
    choice (λ (k : Call). reading_from m (take k.taken bs ++ rest) ≡ after_call k rest) (has_failed m)
    (λ _. refl)
    (λ _.
    let n = (given m (take call_limit bs)).taken in
    let h : n ≤ call_limit = omega (arith, given-within (take call_limit bs) m, length-take call_limit bs) in
    rw (take-take n call_limit bs h) at (given-read (take call_limit bs) m rest))

-- the calls that leave such modes
abbrev pub Sound : Call → Type 0
Sound c = Reached c.mode × Single c.event

pub given-sound : (bs : List ℕ) {m : Mode} → Reached m → Sound (given m bs)
unfolding given takes
given-sound [] h = (h, tt)
given-sound (b ∷ bs) {m = m} h =
    let f = step-fine b h in
    choice Sound (ends (step_byte m b).completes (step_byte m b).mode) (λ e. (f.stops e, f.single)) (λ _. given-sound bs f.rests)

pub called-sound : (bs : List ℕ) {m : Mode} → Reached m → Sound (called m bs)
unfolding called
called-sound bs {m = m} h = choice Sound (has_failed m) (λ _. (h, tt)) (λ _. given-sound (take call_limit bs) h)

-- the run so far does not change where a step leads to
leads-rested : (es : List Event) (l : Lead) (b : ℕ) → (leads es l b).mode ≡ (leads [] l b).mode
unfolding leads
leads-rested es Faulty b = refl
leads-rested es Opens b = refl
leads-rested es (Negotiates v) b = refl
leads-rested es Simple b = refl

step-rested : (m : Mode) (b : ℕ) → rested (step_byte (rested m) b).mode ≡ rested (step_byte m b).mode
unfolding step_byte rested ended
step-rested (data' r) b = go (eqb b iac)
  where
    go : (t : Bool)
        → rested (if t then goes [] (iac_seen []) else goes [] (data' (b ∷ []))).mode
        ≡ rested (if t then goes [] (iac_seen r) else goes [] (data' (r ++ b ∷ []))).mode
    go true = refl
    go false = refl
step-rested (iac_seen r) b = go (eqb b iac)
  where
    go : (t : Bool)
        → rested (if t then goes [] (data' (b ∷ [])) else leads [] (lead b) b).mode
        ≡ rested (if t then goes [] (data' (r ++ b ∷ [])) else leads (ended r) (lead b) b).mode
    go true = refl
    go false = ap rested (sym (leads-rested (ended r) (lead b) b))
step-rested (choosing v) b = refl
step-rested opening b = refl
step-rested (payload o p) b = refl
step-rested (closing o p) b = refl
step-rested (failed e) b = refl

rested-twice : (m : Mode) → rested (rested m) ≡ rested m
unfolding rested
rested-twice (data' r) = refl
rested-twice (iac_seen r) = refl
rested-twice (choosing v) = refl
rested-twice opening = refl
rested-twice (payload o p) = refl
rested-twice (closing o p) = refl
rested-twice (failed e) = refl

pub mode-after-rested : (bs : List ℕ) (m : Mode) → rested (mode_after (rested m) bs) ≡ rested (mode_after m bs)
unfolding mode_after
mode-after-rested [] m = rested-twice m
mode-after-rested (b ∷ bs) m =
    let from = (step_byte (rested m) b).mode in
    sym (mode-after-rested bs from)
    ∙ ap (λ (x : Mode). rested (mode_after x bs)) (step-rested m b)
    ∙ mode-after-rested bs (step_byte m b).mode

pub mode-after-append : (m : Mode) (x y : List ℕ) → mode_after m (x ++ y) ≡ mode_after (mode_after m x) y
unfolding mode_after
mode-after-append m [] y = refl
mode-after-append m (b ∷ x) y = mode-after-append (step_byte m b).mode x y

-- the mode that a call leaves is that of the whole reading after the bytes taken
given-mode : (bs : List ℕ) {m : Mode} → Reached m → (given m bs).mode ≡ rested (mode_after m (take (given m bs).taken bs))
unfolding given takes mode_after
given-mode [] h = sym (reached-rested h)
given-mode (b ∷ bs) {m = m} h =
    let m' = (step_byte m b).mode in
    let f = step-fine b h in
    choice (λ (k : Call). k.mode ≡ rested (mode_after m (take k.taken (b ∷ bs)))) (ends (step_byte m b).completes m')
    (λ e. sym (reached-rested (f.stops e)))
    (λ _. given-mode bs f.rests ∙ mode-after-rested (take (given (rested m') bs).taken bs) m')

pub called-mode : (bs : List ℕ) {m : Mode} → Reached m → (called m bs).mode ≡ rested (mode_after m (take (called m bs).taken bs))
unfolding called mode_after
called-mode bs {m = m} h =
    choice (λ (k : Call). k.mode ≡ rested (mode_after m (take k.taken bs))) (has_failed m)
    (λ _. sym (reached-rested h))
    (λ _.
    let n = (given m (take call_limit bs)).taken in
    let l : n ≤ call_limit = omega (arith, given-within (take call_limit bs) m, length-take call_limit bs) in
    rw (take-take n call_limit bs l) at (given-mode (take call_limit bs) h))

-- joining goes call by call
pub run-joined : (d : List ℕ) (es : List Event) → joined (ended d ++ es) ≡ joins d (joined es)
unfolding joined joins ended
run-joined [] es = refl
run-joined (x ∷ d) es = refl

pub event-joined : (es fs : List Event) → Single es → joined (es ++ fs) ≡ es ++ joined fs
unfolding joined
event-joined [] fs h = refl
event-joined (run r ∷ es) fs h = absurd h
event-joined (command c ∷ es) fs h = rw h
event-joined (negotiation v o ∷ es) fs h = rw h
event-joined (subnegotiation o p ∷ es) fs h = rw h

pub nothing-kept : {m : Mode} → Reached m → reads [] (stops m).ending ≡ stops m
unfolding stops ended
nothing-kept at-data = refl
nothing-kept at-iac-seen = refl
nothing-kept at-choosing = refl
nothing-kept at-opening = refl
nothing-kept at-payload = refl
nothing-kept at-closing = refl
nothing-kept (at-failed h) = refl

pub refused-by-fault : {m : Mode} → Reached m → (refusal_of m ≡ None) ⊎ ((f : Fault) × (refusal_of m ≡ Some (fault_refusal f)))
unfolding refusal_of
refused-by-fault at-data = inl refl
refused-by-fault at-iac-seen = inl refl
refused-by-fault at-choosing = inl refl
refused-by-fault at-opening = inl refl
refused-by-fault at-payload = inl refl
refused-by-fault at-closing = inl refl
refused-by-fault (at-failed h) = inr (h.0, ap Some h.1)

-- a call that is given a byte takes one
pub takes-some-of : (m : Mode) (bs : List ℕ) → has_failed m ≡ false → 0 < length bs → 0 < (called m bs).taken
unfolding called given takes
takes-some-of m [] h l = absurd (omega arith)
takes-some-of m (b ∷ bs) h l =
    rw h (choice (λ (k : Call). 0 < k.taken) (ends (step_byte m b).completes (step_byte m b).mode) (λ _. omega arith) (λ _. omega arith))
