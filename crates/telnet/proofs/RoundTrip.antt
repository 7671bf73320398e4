-- Writing what was read without refusal gives the bytes (`writes-back`), and reading what was written gives the events
-- (`reads-back`): the theorems `Theorems.WritesBack` and `Theorems.ReadsBack`. Assumes nothing.
use mathlib.Core.Path.{◌≡◌, refl, ◌∙◌}
use mathlib.Core.Bool.{Bool, true, false, not, ◌&&◌, ◌||◌}
use mathlib.Core.List.{List, [], ◌∷◌, ◌++◌, append-nil, append_assoc}
use mathlib.Core.Logic.{◌⊎◌, inl, inr}
use Prim.Native.Nat.{ℕ, ◌≤◌}
use native.Mathlib.Omega.{arith}
use borrow.Author.Tests.{eqb-true, le-ltb, ne_eqb}
use lib.Dec.{T, eqb, ltb, leb, leb→le, ltb→lt, eqb→eq}
use lib.ListN.{length}
use lib.Seq.{append_snoc}
use mir.Facts.{and_yes, or_yes}
use Rattle.refusal.specs.declared.Refusal.{Refusal}
use Rattle.telnet.specs.declared.Verb.{Verb}
use Rattle.telnet.specs.declared.Verb.TheVariants.{Will, Wont, Do, Dont}
use Rattle.telnet.specs.declared.Lead.{Lead}
use Rattle.telnet.specs.declared.Lead.TheVariants.{Faulty, Opens, Negotiates, Simple}
use Rattle.telnet.specs.Event.{Event, run, command, negotiation, subnegotiation, lead, code}
use Rattle.telnet.specs.Event.{iac, sb, se, eor, payload_limit}
use Rattle.telnet.specs.Write.{doubled, written, written_all, is_simple, writable}
use Rattle.telnet.specs.Whole.{well, Mode, data', iac_seen, choosing, opening, payload, closing, failed, Step, goes, ended, leads}
use Rattle.telnet.specs.Whole.{grown, step_byte, stops, before, reading_from, reading}
use Rattle.telnet.specs.Theorems.{all, is_run, separate, ReadsBack, WritesBack}
use Rattle.telnet.proofs.Stretch.{Stopped, at-end, at-command, doubled-append, payload-read}
use Rattle.telnet.proofs.Unroll.{stays-failed, run-read}
use Rattle.octets.proofs.Choice.{choice}

pub written-append : (es fs : List Event) → written_all (es ++ fs) ≡ written_all es ++ written_all fs
unfolding written_all
written-append [] fs = refl
written-append (e ∷ es) fs = rw (written-append es fs, append_assoc)

written-ended : (r : List ℕ) → written_all (ended r) ≡ doubled r
unfolding written_all written ended doubled
written-ended [] = refl
written-ended (d ∷ ds) = append-nil (doubled (d ∷ ds))

-- the code that each lead has
data Coded (c : ℕ) : Lead → Type 0 where
  none-faulty : Coded c Faulty
  none-simple : Coded c Simple
  code-opens : c ≡ sb → Coded c Opens
  code-negotiates : {v : Verb} → c ≡ code v → Coded c (Negotiates v)

coded : (c : ℕ) → Coded c (lead c)
unfolding lead
coded c =
    choice (Coded c) (ltb c eor || eqb c se) (λ _. none-faulty) λ _.
    choice (Coded c) (eqb c sb) (λ e. code-opens (eqb-true c sb e)) λ _.
    choice (Coded c) (eqb c 251) (λ e. code-negotiates (eqb-true c 251 e)) λ _.
    choice (Coded c) (eqb c 252) (λ e. code-negotiates (eqb-true c 252 e)) λ _.
    choice (Coded c) (eqb c 253) (λ e. code-negotiates (eqb-true c 253 e)) λ _.
    choice (Coded c) (eqb c 254) (λ e. code-negotiates (eqb-true c 254 e)) λ _.
    none-simple

-- the bytes that a reader has taken for the event that it is in
held : Mode → List ℕ
held (data' r) = doubled r
held (iac_seen r) = doubled r ++ iac ∷ []
held (choosing v) = iac ∷ code v ∷ []
held opening = iac ∷ sb ∷ []
held (payload o p) = iac ∷ sb ∷ o ∷ doubled p
held (closing o p) = iac ∷ sb ∷ o ∷ (doubled p ++ iac ∷ [])
held (failed why) = []

-- a step that fails, or loses no byte of l
data Keeps (l : List ℕ) : Step → Type 0 where
  fails : {es : List Event} {why : Refusal} → Keeps l (goes es (failed why))
  keeps : {es : List Event} {m : Mode} → written_all es ++ held m ≡ l → Keeps l (goes es m)

doubled_snoc : (p : List ℕ) (b : ℕ) → eqb b iac ≡ false → doubled (p ++ b ∷ []) ≡ doubled p ++ b ∷ []
unfolding doubled
doubled_snoc p b e = rw (doubled-append, e)

doubled-snoc-iac : (p : List ℕ) (b : ℕ) → eqb b iac ≡ true → doubled (p ++ b ∷ []) ≡ doubled p ++ iac ∷ [] ++ b ∷ []
unfolding doubled
doubled-snoc-iac p b e = rw (doubled-append, e, append_snoc, eqb-true b iac e)

grown-keeps : (o : ℕ) (p : List ℕ) (b : ℕ) (l : List ℕ) → iac ∷ sb ∷ o ∷ doubled (p ++ b ∷ []) ≡ l → Keeps l (grown o p b)
unfolding grown held written_all
grown-keeps o p b l e = choice (Keeps l) (ltb (length p) payload_limit) (λ _. keeps e) (λ _. fails)

after_run : (r : List ℕ) (c k : ℕ) → c ≡ k → written_all (ended r) ++ iac ∷ k ∷ [] ≡ doubled r ++ iac ∷ [] ++ c ∷ []
after_run r c k e = rw (written-ended, append_snoc, e)

leads_keeps : (r : List ℕ) (l : Lead) (c : ℕ) → Coded c l → Keeps (doubled r ++ iac ∷ [] ++ c ∷ []) (leads (ended r) l c)
unfolding leads held written_all written doubled
leads_keeps r Faulty c none-faulty = fails
leads_keeps r Simple c none-simple = keeps (append-nil _ ∙ written-append (ended r) (command c ∷ []) ∙ after_run r c c refl)
leads_keeps r Opens c (code-opens e) = keeps (after_run r c sb e)
leads_keeps r (Negotiates v) c (code-negotiates e) = keeps (after_run r c (code v) e)

step_keeps : (m : Mode) (b : ℕ) → Keeps (held m ++ b ∷ []) (step_byte m b)
unfolding step_byte held written_all written doubled
step_keeps (data' r) b = choice (Keeps _) (eqb b iac) (λ e. keeps (rw (eqb-true b iac e))) (λ e. keeps (doubled_snoc r b e))
step_keeps (iac_seen r) b = choice (Keeps _) (eqb b iac) (λ e. keeps (doubled-snoc-iac r b e)) (λ e. leads_keeps r (lead b) b (coded b))
step_keeps (choosing v) b = keeps refl
step_keeps opening b = keeps refl
step_keeps (payload o p) b =
    choice (Keeps _) (eqb b iac) (λ e. keeps (rw (eqb-true b iac e))) (λ e. grown-keeps o p b _ (rw (doubled_snoc p b e)))
step_keeps (closing o p) b =
    choice (Keeps _) (eqb b iac) (λ e. grown-keeps o p b _ (rw (doubled-snoc-iac p b e))) λ e.
    choice (Keeps _) (eqb b se) (λ e. keeps (simp (append-nil, append_snoc, eqb-true b se e))) λ _. fails
step_keeps (failed why) b = fails

stops-keeps : (m : Mode) → (stops m).ending ≡ well → written_all (stops m).events ≡ held m ++ []
unfolding stops held
stops-keeps (data' r) h = rw append-nil (written-ended r)
stops-keeps (iac_seen r) h = cc
stops-keeps (choosing v) h = cc
stops-keeps opening h = cc
stops-keeps (payload o p) h = cc
stops-keeps (closing o p) h = cc
stops-keeps (failed why) h = cc

all-kept : (bs : List ℕ) (m : Mode) → (reading_from m bs).ending ≡ well → written_all (reading_from m bs).events ≡ held m ++ bs
unfolding reading_from
all-kept [] m h = stops-keeps m h
all-kept (b ∷ bs) m h = go (step_byte m b) (step_keeps m b) (λ m'. all-kept bs m') h
  where
    go : (s : Step) → Keeps (held m ++ b ∷ []) s
        → ((m' : Mode) → (reading_from m' bs).ending ≡ well → written_all (reading_from m' bs).events ≡ held m' ++ bs)
        → (reading_from s.mode bs).ending ≡ well → written_all (s.completes ++ (reading_from s.mode bs).events) ≡ held m ++ b ∷ bs
    go s (fails {why = why}) rest h = cc (stays-failed why bs)
    go s (keeps {es = es} {m = m'} e) rest h =
        rw (written-append, rest m' h, ← append_assoc (written_all es) (held m') bs, e, append_snoc)

pub writes-back : WritesBack
unfolding reading held doubled
writes-back bs h = all-kept bs (data' []) h

pub simple-range : (c : ℕ) → T (is_simple c) → (eor ≤ c) × (c ≤ 249) × (c ≡ se → ⊥)
unfolding is_simple
simple-range c w = go (or_yes (eqb c eor) (leb 241 c && leb c 249) w)
  where
    go : T (eqb c eor) ⊎ T (leb 241 c && leb c 249) → (eor ≤ c) × (c ≤ 249) × (c ≡ se → ⊥)
    go (inl t) = omega (arith, eqb→eq c eor t)
    go (inr t) =
        let u = and_yes (leb 241 c) (leb c 249) t in
        omega (arith, leb→le 241 c u.0, leb→le c 249 u.1)

simple-is-not : (c : ℕ) → T (is_simple c) → (k : ℕ) → T (ltb 249 k) → eqb c k ≡ false
simple-is-not c w k h = ne_eqb c k (λ e. omega (arith, ltb→lt 249 k h, simple-range c w))

pub simple-lead : (c : ℕ) → T (is_simple c) → lead c ≡ Simple
unfolding lead
simple-lead c w =
    let r = simple-range c w in
    let no = simple-is-not c w in
    rw (le-ltb c eor r.0, ne_eqb c se r.2, no 250 tt, no 251 tt, no 252 tt, no 253 tt, no 254 tt)

verb-is-not-iac : (v : Verb) → eqb (code v) iac ≡ false
verb-is-not-iac Will = refl
verb-is-not-iac Wont = refl
verb-is-not-iac Do = refl
verb-is-not-iac Dont = refl

pub verb-lead : (v : Verb) → lead (code v) ≡ Negotiates v
unfolding lead
verb-lead Will = refl
verb-lead Wont = refl
verb-lead Do = refl
verb-lead Dont = refl

pub sb-lead : lead sb ≡ Opens
unfolding lead
sb-lead = refl

-- what is written of an event that is no run stops a stretch
stopped-before : (e : Event) (bs : List ℕ) → T (not (is_run e)) → T (writable e) → Stopped (written e ++ bs)
unfolding is_run writable written
stopped-before (run d) bs n w = absurd n
stopped-before (command c) bs n w = at-command refl (simple-is-not c w iac tt)
stopped-before (negotiation v o) bs n w = at-command refl (verb-is-not-iac v)
stopped-before (subnegotiation o p) bs n w = at-command refl refl

stopped-after : (e : Event) (es : List Event) → T (is_run e) → T (separate (e ∷ es)) → T (all writable es)
    → Stopped (written_all es)
unfolding separate all written_all
stopped-after e [] r s w = at-end
stopped-after e (f ∷ es) r s w =
    stopped-before f (written_all es) (other (is_run e) (is_run f) r (and_yes (not (is_run e && is_run f)) _ s).0) (and_yes (writable f) _ w).0
  where
    other : (t u : Bool) → T t → T (not (t && u)) → T (not u)
    other true u h n = n
    other false u h n = absurd h

-- an event that was written is read, if what stops it is after it
pub read_first : (e : Event) (bs : List ℕ) → T (writable e) → (T (is_run e) → Stopped bs)
    → reading (written e ++ bs) ≡ before (e ∷ []) (reading bs)
unfolding reading reading_from step_byte ended leads written writable is_run
read_first (run []) bs w s = absurd w
read_first (run (d ∷ ds)) bs w s = run-read (d ∷ ds) bs (s tt)
read_first (command c) bs w s = rw (simple-is-not c w iac tt, simple-lead c w)
read_first (negotiation v o) bs w s = rw (verb-is-not-iac v, verb-lead v)
read_first (subnegotiation o p) bs w s =
    rw (sb-lead, append_assoc (doubled p) (iac ∷ se ∷ []) bs) (payload-read o p (iac ∷ se ∷ bs) (leb→le (length p) payload_limit w))

apart : (e : Event) (es : List Event) → T (separate (e ∷ es)) → T (separate es)
unfolding separate
apart e [] s = tt
apart e (f ∷ es) s = (and_yes (not (is_run e && is_run f)) (separate (f ∷ es)) s).1

pub reads-back : ReadsBack
unfolding all written_all reading reading_from stops ended
reads-back [] w s = refl
reads-back (e ∷ es) w s =
    let u = and_yes (writable e) (all writable es) w in
    rw (reads-back es u.1 (apart e es s)) at (read_first e (written_all es) u.0 (λ r. stopped-after e es r s u.1))
