-- Where a call ends and what it gives (`ends_there`, `takes-some`), its number (`numbers-given`), and that refused and
-- faulted calls change nothing (`stays-as-it-was`). Assumes nothing.
use Rattle.std.specs.Prelude.{Option, None, Some}
use mathlib.Core.Path.{◌≡◌, refl, sym, ap, subst, ◌∙◌}
use mathlib.Core.Bool.{true, false}
use mathlib.Core.Logic.{◌↔◌, ◌⊎◌, inl, inr, ⊎_elim}
use mathlib.Core.List.{List, [], ◌∷◌, ◌++◌, append-nil}
use Prim.Native.Nat.{ℕ, zero, suc, ◌≤◌, ◌<◌, min}
use native.Mathlib.Omega.{arith}
use lib.ListN.{length, take, length-take, length-append}
use lib.Seq.{take-take, take_all}
use borrow.Author.Tests.{lt-ltb, le-ltb}
use Rattle.telnet.specs.Event.{Event, run, command, negotiation, subnegotiation, payload_limit}
use Rattle.telnet.specs.Whole.{Mode, data', iac_seen, choosing, opening, payload, closing, failed, refusal}
use Rattle.telnet.specs.Whole.{step_byte, ended, Reading, reads, reading_from, stops}
use Rattle.telnet_fragments.specs.declared.Fault.{Fault}
use Rattle.telnet_fragments.specs.declared.Fault.TheVariants.{Undoubled, TooLong, BadCommand}
use Rattle.telnet_fragments.specs.declared.Stage.{Stage}
use Rattle.telnet_fragments.specs.declared.Stage.TheVariants.{Data, IacSeen, Choosing, Opening, Payload, Closing, Failed}
use Rattle.telnet_fragments.specs.Call.{Call, call, run_of, has_failed, ends, takes, given, onward, rested, called, call_limit, refusal_of}
use Rattle.telnet_fragments.specs.Promise.{fault_refusal, standing, Seen, sees, seen, kind_of, carried_of, delivered, feed_of, is_idle}
use Rattle.telnet_fragments.specs.Joined.{joins}
use Rattle.telnet_fragments.specs.Chain.{Made, found, left_in, gave}
use Rattle.telnet_fragments.specs.Theorems.{only_data, is_fault, Unbroken, EndsThere, TakesSome, NumbersGiven, Idle, StaysAsItWas}
use Rattle.telnet_fragments.proofs.Steps.{is_one, Within, step-fine, Reached, Single}
use Rattle.telnet_fragments.proofs.Cuts.{given-read, given-within, given-sound, called-sound, called-read, nothing-kept, refused-by-fault, takes-some-of}
use Rattle.telnet_fragments.proofs.Chaining.{always-reached, Told, told}
use Rattle.telnet_fragments.proofs.Closing.{fault-not-cut}
use Rattle.octets.specs.Lent.{Outcome, outcome}
use Rattle.octets.proofs.Choice.{choice, choice₂, never}
use Rattle.octets.proofs.Order.{below-or-above}
use Rattle.octets.proofs.Overwrite.{overwrite-nil}
use Rattle.refusal.specs.declared.Refusal.{Refusal}
use Rattle.refusal.specs.declared.Refusal.TheVariants.{NoRoom}

rested-fails : (m : Mode) → has_failed (rested m) ≡ has_failed m
unfolding rested has_failed
rested-fails (data' r) = refl
rested-fails (iac_seen r) = refl
rested-fails (choosing v) = refl
rested-fails opening = refl
rested-fails (payload o p) = refl
rested-fails (closing o p) = refl
rested-fails (failed e) = refl

-- what does not end a call has not failed
unended : (es : List Event) (m : Mode) → ends es m ≡ false → has_failed (rested m) ≡ false
unfolding ends
unended [] m e = rested-fails m ∙ e
unended (x ∷ es) m e = cc

-- how a fragment of any length is gone through
data Went (bs : List ℕ) (c : Call) : Type 0 where
  at-event : is_one c.event ≡ true → has_failed c.mode ≡ false → Went bs c
  at-fault : c.event ≡ [] → has_failed c.mode ≡ true → Went bs c
  at-end : c.event ≡ [] → has_failed c.mode ≡ false → c.taken ≡ length bs → Went bs c

one_more : (b : ℕ) (bs d : List ℕ) (c : Call) → Went bs c → Went (b ∷ bs) (onward d c)
one_more b bs d c (at-event e f) = at-event e f
one_more b bs d c (at-fault e f) = at-fault e f
one_more b bs d c (at-end e f n) = at-end e f (ap suc n)

failing : (es : List Event) (m : Mode) → es ≡ [] → ends es m ≡ true → has_failed m ≡ true
unfolding ends
failing [] m k e = e
failing (x ∷ es) m k e = cc

stopped : (bs : List ℕ) (es : List Event) (m : Mode) → ((is_one es ≡ true) × (has_failed m ≡ false)) ⊎ (es ≡ []) → ends es m ≡ true → Went bs (call [] es 1 m)
stopped bs es m (inl k) e = at-event k.0 k.1
stopped bs es m (inr k) e = at-fault k (failing es m k e)

given-went : (bs : List ℕ) {m : Mode} → Reached m → has_failed m ≡ false → Went bs (given m bs)
unfolding given takes
given-went [] h f = at-end refl f refl
given-went (b ∷ bs) {m = m} h f =
    let es = (step_byte m b).completes in
    let m' = (step_byte m b).mode in
    choice (Went (b ∷ bs)) (ends es m')
    (λ e. stopped (b ∷ bs) es m' (step-fine b h).one e)
    (λ e. one_more b bs (run_of m') (given (rested m') bs) (given-went bs (step-fine b h).rests (unended es m' e)))

-- a call that completed nothing and met no fault
abbrev Nothing : Call → Type 0
Nothing c = (c.event ≡ []) × (has_failed c.mode ≡ false)

-- fewer bytes complete nothing
given-first : (n : ℕ) (bs : List ℕ) {m : Mode} → Reached m → has_failed m ≡ false → n < (given m bs).taken → Nothing (given m (take n bs))
unfolding given takes
given-first zero bs h f k = (refl, f)
given-first (suc n) [] h f k = absurd (omega arith)
given-first (suc n) (b ∷ bs) {m = m} h f k =
    let es = (step_byte m b).completes in
    let m' = (step_byte m b).mode in
    choice₂ (λ (c : Call) (d : Call). suc n < c.taken → Nothing d) (ends es m')
    (λ e l. absurd (omega arith))
    (λ e l. given-first n bs (step-fine b h).rests (unended es m' e) (omega arith)) k

-- then all of them are taken, and what is read of them is data
went-all : (bs : List ℕ) (c : Call) → Nothing c → Went bs c → c.taken ≡ length bs
went-all bs c n (at-event e f) = never (sym (ap is_one n.0) ∙ e)
went-all bs c n (at-fault e f) = never (sym n.1 ∙ f)
went-all bs c n (at-end e f l) = l

data-only : (d : List ℕ) → only_data (joins d []) ≡ true
unfolding only_data joins
data-only [] = refl
data-only (x ∷ d) = refl

unfailed-ends : (m : Mode) → has_failed m ≡ false → is_fault (stops m).ending ≡ false
unfolding stops has_failed is_fault
unfailed-ends (data' r) e = refl
unfailed-ends (iac_seen r) e = refl
unfailed-ends (choosing v) e = refl
unfailed-ends opening e = refl
unfailed-ends (payload o p) e = refl
unfailed-ends (closing o p) e = refl
unfailed-ends (failed why) e = never (sym e)

nothing-unbroken : (bs : List ℕ) {m : Mode} → Reached m → has_failed m ≡ false → Nothing (given m bs) → Unbroken (reading_from m bs)
unfolding reading_from
nothing-unbroken bs {m = m} h f n =
    let c = given m bs in
    let all : take c.taken bs ++ [] ≡ bs = append-nil (take c.taken bs) ∙ ap (λ k. take k bs) (went-all bs c n (given-went bs h f)) ∙ take_all (length bs) bs (omega arith) in
    let whole : reading_from m bs ≡ reads (joins c.run []) (stops c.mode).ending =
    ap (reading_from m) (sym all) ∙ given-read bs m []
    ∙ ap (λ (r : Reading). reads (joins c.run (c.event ++ r.events)) r.ending) (sym (nothing-kept (given-sound bs h).0))
    ∙ ap (λ (es : List Event). reads (joins c.run (es ++ [])) (stops c.mode).ending) n.0 in
    rw whole (data-only c.run, unfailed-ends c.mode n.1)

joins-one : (d : List ℕ) (es : List Event) → Single es → joins d (es ++ []) ≡ ended d ++ es
unfolding joins ended
joins-one [] es h = append-nil es
joins-one (x ∷ d) [] h = refl
joins-one (x ∷ d) (run r ∷ es) h = absurd h
joins-one (x ∷ d) (command c ∷ es) h = ap (λ (l : List Event). run (x ∷ d) ∷ command c ∷ l) (append-nil es)
joins-one (x ∷ d) (negotiation v o ∷ es) h = ap (λ (l : List Event). run (x ∷ d) ∷ negotiation v o ∷ l) (append-nil es)
joins-one (x ∷ d) (subnegotiation o p ∷ es) h = ap (λ (l : List Event). run (x ∷ d) ∷ subnegotiation o p ∷ l) (append-nil es)

-- what a call with room gives is what is read of the bytes that it takes
gives-read : (c : Made) → Told c (called (found c) c.fragment)
    → reads (gave c) (stops (left_in c)).ending ≡ reading_from (found c) (take c.answer.taken c.fragment)
unfolding reading_from
gives-read c t =
    let d = called (found c) c.fragment in
    let s = called-sound c.fragment (always-reached c.reader c.kept) in
    ap (λ (es : List Event). reads es (stops (left_in c)).ending) (t.gave-is ∙ sym (joins-one d.run d.event s.1))
    ∙ ap (λ (m : Mode). reads (joins d.run (d.event ++ [])) (stops m).ending) t.mode-is
    ∙ ap (λ (r : Reading). reads (joins d.run (d.event ++ r.events)) r.ending) (nothing-kept s.0)
    ∙ sym (called-read (found c) c.fragment [])
    ∙ ap (reading_from (found c)) (append-nil (take d.taken c.fragment) ∙ ap (λ n. take n c.fragment) (sym t.taken_is))

one-kind : (es : List Event) → is_one es ≡ true → kind_of es ≡ None → ⊥
unfolding kind_of
one-kind [] e k = never e
one-kind (e ∷ f ∷ es) h k = never h
one-kind (run d ∷ []) e k = never e
one-kind (command c ∷ []) e k = cc
one-kind (negotiation v o ∷ []) e k = cc
one-kind (subnegotiation o p ∷ []) e k = cc

failed-refused : (m : Mode) → has_failed m ≡ true → refusal_of m ≡ None → ⊥
unfolding has_failed refusal_of
failed-refused (data' r) e n = never e
failed-refused (iac_seen r) e n = never e
failed-refused (choosing v) e n = never e
failed-refused opening e n = never e
failed-refused (payload o p) e n = never e
failed-refused (closing o p) e n = never e
failed-refused (failed why) e n = cc

went-limit : (bs : List ℕ) (c : Call) → Went bs c → kind_of c.event ≡ None → refusal_of c.mode ≡ None → c.taken ≡ length bs
went-limit bs c (at-event e f) k n = absurd (one-kind c.event e k)
went-limit bs c (at-fault e f) k n = absurd (failed-refused c.mode f n)
went-limit bs c (at-end e f l) k n = l

-- no more data than bytes taken
given-run : (bs : List ℕ) {m : Mode} → Reached m → length (given m bs).run ≤ (given m bs).taken
unfolding given takes
given-run [] h = omega arith
given-run (b ∷ bs) {m = m} h =
    let m' = (step_byte m b).mode in
    choice (λ (k : Call). length k.run ≤ k.taken) (ends (step_byte m b).completes m')
    (λ _. omega arith)
    (λ _. omega (arith, length-append (run_of m') (given (rested m') bs).run, (step-fine b h).short, given-run bs (step-fine b h).rests))

-- and no longer payload than a subnegotiation may have
given-modest : (bs : List ℕ) {m : Mode} → Reached m → Within m → length (carried_of (given m bs).event) ≤ payload_limit
unfolding given takes carried_of
given-modest [] h w = omega arith
given-modest (b ∷ bs) {m = m} h w =
    let s = (step-fine b h).modest w in
    choice (λ (k : Call). length (carried_of k.event) ≤ payload_limit) (ends (step_byte m b).completes (step_byte m b).mode)
    (λ _. s.1)
    (λ _. given-modest bs (step-fine b h).rests s.0)

standing-within : (s : Stage) (n : ℕ) (kept : List ℕ) → length kept ≡ payload_limit → Within (standing s n kept)
unfolding standing
standing-within Data n kept h = tt
standing-within IacSeen n kept h = tt
standing-within (Choosing v) n kept h = tt
standing-within Opening n kept h = tt
standing-within (Payload o) n kept h = omega (arith, length-take n kept)
standing-within (Closing o) n kept h = omega (arith, length-take n kept)
standing-within (Failed f) n kept h = tt

pub ends_there : EndsThere
unfolding called
ends_there c p room f long =
    let m = found c in
    let h = always-reached c.reader c.kept in
    let cut = take call_limit c.fragment in
    let k = given m cut in
    let is : called m c.fragment ≡ k = rw f in
    let t : Told c k = subst (Told c) is (told c p room) in
    let size : length cut ≡ min call_limit (length c.fragment) = length-take call_limit c.fragment in
    let w : k.taken ≤ length cut = given-within cut m in
    let sound = given-sound cut h in
    record {
      gives = gives-read c (told c p room);
      first = λ n l.
          let l' : n < k.taken = omega (arith, t.taken_is) in
          let small : n ≤ call_limit = omega (arith, length-take call_limit c.fragment, w) in
          let none : Nothing (given m (take n c.fragment)) = rw (take-take n call_limit c.fragment small) at (given-first n cut h f l') in
          nothing-unbroken (take n c.fragment) h f none;
      limit = λ e n.
          t.taken_is ∙ went-limit cut k (given-went cut h f) (sym t.kind-is ∙ e) (sym t.refusal_is ∙ n) ∙ size;
      within = omega (arith, t.taken_is, w, size);
      fits = omega (arith, t.length-is, t.payload-is, given-run cut h, w, length-take call_limit c.fragment, given-modest cut h (standing-within c.reader.stage c.reader.count c.kept long));
    }

pub takes-some : TakesSome
takes-some c p room f l = omega (arith, (told c p room).taken_is, takes-some-of (found c) c.fragment f l)

-- what a mode failed by, and how it ends
fault-ends : (m : Mode) (f : Fault) → (refusal_of m ≡ Some (fault_refusal f)) ↔ ((stops m).ending ≡ refusal (fault_refusal f))
unfolding refusal_of stops
fault-ends (data' r) f = (λ e. cc, λ e. cc)
fault-ends (iac_seen r) f = (λ e. cc, λ e. absurd (fault-not-cut f cc))
fault-ends (choosing v) f = (λ e. cc, λ e. absurd (fault-not-cut f cc))
fault-ends opening f = (λ e. cc, λ e. absurd (fault-not-cut f cc))
fault-ends (payload o p) f = (λ e. cc, λ e. absurd (fault-not-cut f cc))
fault-ends (closing o p) f = (λ e. cc, λ e. absurd (fault-not-cut f cc))
fault-ends (failed why) f = (λ e. cc, λ e. cc)

went-silent : (bs : List ℕ) (c : Call) → Went bs c → has_failed c.mode ≡ true → kind_of c.event ≡ None
unfolding kind_of
went-silent bs c (at-event e f) g = never (sym f ∙ g)
went-silent bs c (at-fault e f) g = ap kind_of e
went-silent bs c (at-end e f l) g = ap kind_of e

called-silent : (m : Mode) (bs : List ℕ) → Reached m → has_failed (called m bs).mode ≡ true → kind_of (called m bs).event ≡ None
unfolding called kind_of
called-silent m bs h =
    choice (λ (k : Call). has_failed k.mode ≡ true → kind_of k.event ≡ None) (has_failed m)
    (λ _ _. refl)
    (λ f g. went-silent (take call_limit bs) (given m (take call_limit bs)) (given-went (take call_limit bs) h f) g)

refused-failed : (m : Mode) (why : Refusal) → refusal_of m ≡ Some why → has_failed m ≡ true
unfolding refusal_of has_failed
refused-failed (data' r) why e = cc
refused-failed (iac_seen r) why e = cc
refused-failed (choosing v) why e = cc
refused-failed opening why e = cc
refused-failed (payload o p) why e = cc
refused-failed (closing o p) why e = cc
refused-failed (failed other) why e = refl

pub numbers-given : NumbersGiven
unfolding feed_of
numbers-given c p =
    let d = called (found c) c.fragment in
    let h = always-reached c.reader c.kept in
    let sound = called-sound c.fragment h in
    let enough : 2048 ≤ length c.room → (c.answer.refusal ≡ None) ⊎ (((f : Fault) × (c.answer.refusal ≡ Some (fault_refusal f))) × (c.answer.kind ≡ None)) =
    λ l.
    let t = told c p l in
    ⊎_elim (λ z. inl (t.refusal_is ∙ z))
    (λ x. inr ((x.0, t.refusal_is ∙ x.1), t.kind-is ∙ called-silent (found c) c.fragment h (refused-failed d.mode (fault_refusal x.0) x.1)))
    (refused-by-fault sound.0) in
    record {
      short = (
        λ e. ⊎_elim (λ l. l) (λ l. absurd (not-four (enough l) e)) (below-or-above (length c.room) 2048),
        λ l. rw (lt-ltb (length c.room) 2048 l) at (ap (λ (o : Outcome Seen). o.answer.refused) p.0),
      );
      fault = λ l f.
          let t = told c p l in
          let way = fault-ends d.mode f in
          let is : (reading_from (found c) (take c.answer.taken c.fragment)).ending ≡ (stops d.mode).ending =
          sym (ap (λ (r : Reading). r.ending) (gives-read c t)) ∙ ap (λ (m : Mode). (stops m).ending) t.mode-is in
          (λ e. is ∙ way.0 (sym t.refusal_is ∙ e), λ e. t.refusal_is ∙ way.1 (sym is ∙ e));
      enough = enough;
    }
  where
    four : (f : Fault) → fault_refusal f ≡ NoRoom → ⊥
    four Undoubled e = cc
    four TooLong e = cc
    four BadCommand e = cc

    not-four : {o : Option Refusal} {A : Type 0} → (o ≡ None) ⊎ (((f : Fault) × (o ≡ Some (fault_refusal f))) × A) → o ≡ Some NoRoom → ⊥
    not-four (inl z) e = cc
    not-four (inr x) e = four x.0.0 (cc x.0.1)

-- an idle call, from its promise
idle-told : (c : Made) (why : Option Refusal) → outcome (seen c.answer c.keeps) c.left ≡ outcome (sees (found c) why 0 0 None 0) c.room
    → (c.answer.reader ≡ c.reader) × (c.keeps ≡ c.kept) → Idle c why
idle-told c why q h =
    let a = c.answer in
    let parts : a ≡ record { reader = a.reader; refusal = a.refusal; taken = a.taken; length = a.length; kind = a.kind; payload = a.payload } = refl in
    let reader = h.0 in
    let n = ap (λ (o : Outcome Seen). o.answer.refused) q in
    let t = ap (λ (o : Outcome Seen). o.answer.taken) q in
    let l = ap (λ (o : Outcome Seen). o.answer.length) q in
    let k = ap (λ (o : Outcome Seen). o.answer.kind) q in
    let p = ap (λ (o : Outcome Seen). o.answer.payload) q in
    record {
      answered = cc;
      kept = h.1;
      room = ap (λ (o : Outcome Seen). o.lent) q;
    }

pub stays-as-it-was : StaysAsItWas
unfolding feed_of is_idle called delivered has_failed refusal_of kind_of carried_of standing
stays-as-it-was c p =
    record {
      refused = λ l.
          let e = lt-ltb (length c.room) 2048 l in
          idle-told c (Some NoRoom) (rw e at p.0) (rw e at p.1);
      faulted = λ l f e.
          let g = le-ltb (length c.room) 2048 l in
          let m : found c ≡ failed (fault_refusal f) = ap (λ (s : Stage). standing s c.reader.count c.kept) e in
          let q : outcome (seen c.answer c.keeps) c.left ≡ outcome (sees (failed (fault_refusal f)) (Some (fault_refusal f)) 0 0 None 0) c.room =
          rw (g, m, overwrite-nil c.room 0) at p.0 in
          let i : is_idle (found c) c.room ≡ true = rw (g, m) in
          idle-told c (Some (fault_refusal f)) (q ∙ ap (λ (x : Mode). outcome (sees x (Some (fault_refusal f)) 0 0 None 0) c.room) (sym m))
          (rw i at p.1);
    }
