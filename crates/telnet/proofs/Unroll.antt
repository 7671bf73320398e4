-- The whole reading, a step a byte, is the reading of one event after another (`unrolled`, the theorem
-- `Theorems.Unrolled`). Assumes nothing.
use Rattle.std.specs.Prelude.{if◌then◌else◌}
use mathlib.Core.Path.{◌≡◌, refl, sym, ap, ◌∙◌, subst⁻¹}
use mathlib.Core.Bool.{Bool, true, false}
use mathlib.Core.List.{List, [], ◌∷◌, ◌++◌, append-nil, append_assoc}
use Prim.Native.Nat.{ℕ, ◌<◌}
use native.Mathlib.Nat.{le_of_eq}
use native.Mathlib.Omega.{arith}
use borrow.Author.Tests.{ltb-true, ltb-false, le-ltb}
use lib.Dec.{eqb, ltb}
use lib.ListN.{length, take, drop, length-append}
use lib.Seq.{append_snoc, split_at, length-take-le, drop-append-add}
use Rattle.telnet.specs.declared.Lead.{Lead}
use Rattle.telnet.specs.declared.Lead.TheVariants.{Faulty, Opens, Negotiates, Simple}
use Rattle.telnet.specs.Event.{subnegotiation, lead, iac, se, payload_limit}
use Rattle.telnet.specs.Write.{doubled, written}
use Rattle.telnet.specs.Read.{data_run, found, refused, closed, after_sb, after_verb, after_lead, after_iac, run_or, event_of}
use Rattle.telnet.specs.Whole.{refusal, data', iac_seen, opening, payload, failed, Step, goes, ended, leads, grown, step_byte, stops}
use Rattle.telnet.specs.Whole.{reads, before, reading_from, reading}
use Rattle.telnet.specs.Theorems.{read_on, Unrolled}
use Rattle.telnet.proofs.Stretch.{Stopped, at-end, at-iac, at-command, Stretched, stretch, after-stretch, doubled-append, absorb}
use Rattle.telnet.proofs.Stretch.{absorbs-data, payload-read}
use Rattle.refusal.specs.declared.Refusal.{Refusal}
use Rattle.refusal.specs.declared.Refusal.TheVariants.{Undoubled, PayloadTooLong, BadCommand}

-- what is refused stays refused
pub stays-failed : (why : Refusal) (bs : List ℕ) → reading_from (failed why) bs ≡ reads [] (refusal why)
unfolding reading_from step_byte stops
stays-failed why [] = refl
stays-failed why (b ∷ bs) = stays-failed why bs

flush : (r bs : List ℕ) → Stopped bs → reading_from (data' r) bs ≡ before (ended r) (reading_from (data' []) bs)
unfolding reading_from step_byte stops ended leads
flush r [] at-end = rw (append-nil (ended r))
flush r (b ∷ []) (at-iac e) = rw (e, append-nil (ended r))
flush r (b ∷ c ∷ bs) (at-command e f) = rw (e, f) (by (lead c))
  where
    by : (l : Lead) → before (leads (ended r) l c).completes (reading_from (leads (ended r) l c).mode bs)
        ≡ before (ended r) (before (leads [] l c).completes (reading_from (leads [] l c).mode bs))
    by Faulty = refl
    by Opens = refl
    by Simple = rw append_snoc
    by (Negotiates v) = refl

-- a run that is stopped is one event, if it has data
pub run-read : (d bs : List ℕ) → Stopped bs → reading (doubled d ++ bs) ≡ before (ended d) (reading bs)
unfolding reading
run-read d bs s = absorb data' iac_seen (length d) (absorbs-data (length d)) [] d bs (omega arith) ∙ flush d bs s

full : (o : ℕ) (p : List ℕ) (b : ℕ) (d bs : List ℕ) → length p ≡ payload_limit
    → reading_from (payload o p) (doubled (b ∷ d) ++ bs) ≡ reads [] (refusal PayloadTooLong)
unfolding doubled reading_from step_byte grown
full o p b d bs h = go (eqb b iac) refl (le-ltb (length p) payload_limit (le_of_eq (sym h)))
  where
    go : (t : Bool) → eqb b iac ≡ t → ltb (length p) payload_limit ≡ false
        → reading_from (payload o p) (doubled (b ∷ d) ++ bs) ≡ reads [] (refusal PayloadTooLong)
    go true e f = rw (e, e, e, f) (stays-failed PayloadTooLong (doubled d ++ bs))
    go false e f = rw (e, e, f) (stays-failed PayloadTooLong (doubled d ++ bs))

-- the byte after the last that a payload may have is refused
too_long : (o : ℕ) (d bs : List ℕ) → payload_limit < length d
    → reading_from (payload o []) (doubled d ++ bs) ≡ reads [] (refusal PayloadTooLong)
too_long o d bs h =
    let p = take payload_limit d in
    let l : length p ≡ payload_limit = length-take-le payload_limit d (omega arith) in
    rw (split_at d payload_limit 0 h, doubled-append, append_assoc)
    (payload-read o p _ (omega arith) ∙ full o p _ _ bs l)

-- after a payload
after-payload : (b c o : ℕ) (p bs : List ℕ) → Stopped bs
    → reading_from (payload o p) bs ≡ read_on (b ∷ c ∷ o ∷ (doubled p ++ bs)) (closed o p bs)
unfolding reading_from reading step_byte stops read_on closed written
after-payload b c o p [] at-end = refl
after-payload b c o p (x ∷ []) (at-iac e) = rw e
after-payload b c o p (x ∷ y ∷ bs) (at-command e f) = rw (e, f) (go (eqb y se))
  where
    line : List ℕ
    line = b ∷ c ∷ o ∷ (doubled p ++ x ∷ y ∷ bs)

    closes : Bool → Step
    closes t = if t then goes (subnegotiation o p ∷ []) (data' []) else goes [] (failed Undoubled)

    go : (t : Bool) → before (closes t).completes (reading_from (closes t).mode bs)
        ≡ read_on line (if t then found (subnegotiation o p) else refused Undoubled)
    go true = rw (length-append, drop-append-add)
    go false = stays-failed Undoubled bs

-- after 255 250
after-opening : (b c : ℕ) (bs : List ℕ) → reading_from opening bs ≡ read_on (b ∷ c ∷ bs) (after_sb bs)
unfolding reading_from step_byte stops read_on after_sb
after-opening b c [] = refl
after-opening b c (o ∷ bs) = go (ltb payload_limit (length (data_run bs))) refl (stretch bs)
  where
    go : (t : Bool) → ltb payload_limit (length (data_run bs)) ≡ t → Stretched bs
        → reading_from (payload o []) bs ≡ read_on (b ∷ c ∷ o ∷ bs) (after_sb (o ∷ bs))
    go true e s = rw e (ap (reading_from (payload o [])) s.whole ∙ too_long o (data_run bs) s.rest (ltb-true _ _ e))
    go false e s =
        rw (e, after-stretch bs s)
        (ap (reading_from (payload o [])) s.whole
        ∙ payload-read o (data_run bs) s.rest (ltb-false payload_limit (length (data_run bs)) e)
        ∙ rw (← s.whole) at (after-payload b c o (data_run bs) s.rest s.stopped))

-- after 255 and the byte c
after-lead : (l : Lead) (b c : ℕ) (bs : List ℕ)
    → before (leads [] l c).completes (reading_from (leads [] l c).mode bs) ≡ read_on (b ∷ c ∷ bs) (after_lead l c bs)
unfolding reading_from reading step_byte stops leads read_on after_lead after_verb written
after-lead Faulty b c bs = stays-failed BadCommand bs
after-lead Opens b c bs = after-opening b c bs
after-lead Simple b c bs = refl
after-lead (Negotiates v) b c [] = refl
after-lead (Negotiates v) b c (o ∷ bs) = refl

-- where there are no data at the front
after-iac : (b : ℕ) (bs : List ℕ) → Stopped (b ∷ bs) → reading (b ∷ bs) ≡ read_on (b ∷ bs) (after_iac bs)
unfolding reading_from reading step_byte stops ended read_on after_iac
after-iac b [] (at-iac e) = rw e
after-iac b (c ∷ bs) (at-command e f) = rw (e, f) (after-lead (lead c) b c bs)

-- the stretch at the front is a run of its own, if it has data
pub run-first : (bs : List ℕ) → reading bs ≡ before (ended (data_run bs)) (reading (drop (length (doubled (data_run bs))) bs))
run-first bs = go (stretch bs)
  where
    go : Stretched bs → reading bs ≡ before (ended (data_run bs)) (reading (drop (length (doubled (data_run bs))) bs))
    go s = rw (after-stretch bs s) (ap reading s.whole ∙ run-read (data_run bs) s.rest s.stopped)

pub unrolled : Unrolled
unfolding reading reading_from stops ended read_on event_of run_or doubled written
unrolled [] = refl
unrolled (b ∷ bs) = go (data_run (b ∷ bs)) refl (stretch (b ∷ bs))
  where
    line : List ℕ
    line = b ∷ bs

    go : (u : List ℕ) → data_run line ≡ u → Stretched line → reading line ≡ read_on line (run_or u (after_iac bs))
    go [] e s = after-iac b bs (subst⁻¹ Stopped (rw e at s.whole) s.stopped)
    go (d ∷ ds) e s = rw e at (run-first line)
