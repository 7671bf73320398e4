-- A turn is a step of the whole reading (`turn-found`), and what it says of the stage that it leads to (`turn_is`).
-- Assumes nothing.
use Rattle.std.specs.Prelude.{if◌then◌else◌, None, Some}
use mathlib.Core.Path.{◌≡◌, refl, sym, ap, subst, ◌∙◌}
use mathlib.Core.Bool.{Bool, true, false}
use mathlib.Core.Logic.{⊎_elim}
use mathlib.Core.List.{List, [], ◌∷◌, ◌++◌}
use Prim.Native.Nat.{ℕ, ◌+◌, ◌≤◌, ◌<◌}
use native.Mathlib.Numerals.{add-one}
use native.Mathlib.Omega.{arith}
use lib.Dec.{eqb, ltb}
use lib.ListN.{length, take, set}
use lib.Seq.{length-take-le, take_all, take-suc-set}
use borrow.Author.Tests.{lt-ltb, le-ltb, ltb-true}
use Rattle.telnet.specs.declared.Lead.{Lead}
use Rattle.telnet.specs.declared.Lead.TheVariants.{Faulty, Opens, Negotiates, Simple}
use Rattle.telnet.specs.declared.Kind.TheVariants.{Subnegotiation}
use Rattle.telnet.specs.Event.{subnegotiation, lead, iac, se, payload_limit}
use Rattle.telnet.specs.Whole.{data', iac_seen, closing, Step, step_byte, goes, ended, grown, failed, leads as leads_on}
use Rattle.telnet_fragments.specs.declared.Fault.TheVariants.{Undoubled}
use Rattle.telnet_fragments.specs.declared.Stage.{Stage}
use Rattle.telnet_fragments.specs.declared.Stage.TheVariants.{Data, IacSeen, Choosing, Opening, Payload, Closing, Failed}
use Rattle.telnet_fragments.specs.Call.{Call, call, run_of, rested, has_failed, ends, takes, given, onward}
use Rattle.telnet_fragments.specs.Promise.{standing, happened}
use Rattle.telnet_stage.specs.declared.Act.{Act}
use Rattle.telnet_stage.specs.declared.Act.TheVariants.{Waits, Gives, Keeps, Stops}
use Rattle.telnet_stage.specs.declared.Turn.{Turn}
use Rattle.telnet_stage.specs.Turn.{turns, leads, after_iac, grows, closes, turn_of}
use Rattle.octets.proofs.Choice.{choice}
use Rattle.octets.proofs.Order.{below-or-above}
use Rattle.refusal.specs.declared.Refusal.TheVariants.{Undoubled as UndoubledIac}

-- what a fragment gives whose first byte is b, by what is to be done with that byte: s and m are the stage and count
-- that it leads to, n is the count before, and p the array
unfoldable pub after : Act → Stage → (m n : ℕ) (p : List ℕ) (b : ℕ) (rest : List ℕ) → Call
after Waits s m n p b rest = onward [] (given (standing s m p) rest)
after Gives s m n p b rest = onward (b ∷ []) (given (standing s n p) rest)
after Keeps s m n p b rest = onward [] (given (standing s (n + 1) (set p n b)) rest)
after (Stops k) s m n p b rest = call [] (happened k (take n p)) 1 (standing s n p)

-- what follows a step
abbrev stepped : Step → List ℕ → Call
stepped t rest = takes t.completes t.mode (given (rested t.mode) rest)

abbrev turned : Turn → ℕ → List ℕ → ℕ → List ℕ → Call
turned t n p b rest = after t.act t.stage t.count n p b rest

grown-turned : (o n : ℕ) (p : List ℕ) (b : ℕ) (rest : List ℕ) → length p ≡ 1024
    → stepped (grown o (take n p) b) rest ≡ turned (grows o n) n p b rest
unfolding grown grows after takes ends has_failed run_of rested standing happened
grown-turned o n p b rest h = ⊎_elim below above (below-or-above n 1024)
  where
    below : n < 1024 → stepped (grown o (take n p) b) rest ≡ turned (grows o n) n p b rest
    below k =
        let l : length (take n p) ≡ n = length-take-le n p (omega arith) in
        let e : take (n + 1) (set p n b) ≡ take n p ++ b ∷ [] = rw add-one (take-suc-set p n b (omega arith)) in
        rw (l, lt-ltb n 1024 k, e)

    above : 1024 ≤ n → stepped (grown o (take n p) b) rest ≡ turned (grows o n) n p b rest
    above k =
        let l : take n p ≡ p = take_all n p (omega arith) in
        rw (l, le-ltb n 1024 k, le-ltb (length p) 1024 (omega arith))

pub turn-taken : (s : Stage) (n : ℕ) (p : List ℕ) (b : ℕ) (rest : List ℕ) → length p ≡ 1024
    → given (standing s n p) (b ∷ rest) ≡ turned (turn_of s n b) n p b rest
unfolding given step_byte turn_of after takes ends has_failed run_of rested standing happened after_iac leads leads_on ended closes
turn-taken Data n p b rest h = go (eqb b iac)
  where
    go : (t : Bool) → stepped (if t then goes [] (iac_seen []) else goes [] (data' (b ∷ []))) rest
        ≡ turned (if t then turns IacSeen n Waits else turns Data n Gives) n p b rest
    go true = refl
    go false = refl
turn-taken IacSeen n p b rest h = go (eqb b iac) (lead b)
  where
    go : (t : Bool) (l : Lead)
        → stepped (if t then goes [] (data' (b ∷ [])) else leads_on [] l b) rest
        ≡ turned (if t then turns Data n Gives else leads l n b) n p b rest
    go true l = refl
    go false Faulty = refl
    go false Opens = refl
    go false (Negotiates v) = refl
    go false Simple = refl
turn-taken (Choosing v) n p b rest h = refl
turn-taken Opening n p b rest h = refl
turn-taken (Payload o) n p b rest h = go (eqb b iac) (grown-turned o n p b rest h)
  where
    go : (t : Bool) → stepped (grown o (take n p) b) rest ≡ turned (grows o n) n p b rest
        → stepped (if t then goes [] (closing o (take n p)) else grown o (take n p) b) rest
        ≡ turned (if t then turns (Closing o) n Waits else grows o n) n p b rest
    go true e = refl
    go false e = e
turn-taken (Closing o) n p b rest h = go (eqb b iac) (eqb b se) (grown-turned o n p b rest h)
  where
    go : (t u : Bool) → stepped (grown o (take n p) b) rest ≡ turned (grows o n) n p b rest
        → stepped (if t then grown o (take n p) b else if u then goes (subnegotiation o (take n p) ∷ []) (data' []) else goes [] (failed UndoubledIac)) rest
        ≡ turned (if t then grows o n else if u then turns Data n (Stops (Some (Subnegotiation o))) else turns (Failed Undoubled) n (Stops None)) n p b rest
    go true u e = e
    go false true e = refl
    go false false e = refl
turn-taken (Failed m) n p b rest h = refl

-- the same of a turn that the code found
pub turn-found : (s : Stage) (n : ℕ) (p : List ℕ) (b : ℕ) (rest : List ℕ) (t : Turn) (a : Act) → length p ≡ 1024 → t ≡ turn_of s n b → t.act ≡ a
    → given (standing s n p) (b ∷ rest) ≡ after a t.stage t.count n p b rest
turn-found s n p b rest t a h e k =
    turn-taken s n p b rest h ∙ ap (λ (u : Turn). turned u n p b rest) (sym e) ∙ ap (λ (x : Act). after x t.stage t.count n p b rest) k

-- what a turn says of the stage that it leads to: data after a byte of data, a payload after one of a payload, which is
-- kept only where there is room for it
abbrev Apt : ℕ → Act → Stage → Type 0
Apt n Waits s = Unit {0}
Apt n Gives s = s ≡ Data
Apt n Keeps s = (n < 1024) × ((o : ℕ) × (s ≡ Payload o))
Apt n (Stops k) s = Unit {0}

abbrev apt : ℕ → Turn → Type 0
apt n t = Apt n t.act t.stage

grows-apt : (o n : ℕ) → apt n (grows o n)
unfolding grows
grows-apt o n = choice (apt n) (ltb n payload_limit) (λ e. (ltb-true n 1024 e, (o, refl))) (λ e. tt)

turn-apt : (s : Stage) (n b : ℕ) → apt n (turn_of s n b)
unfolding turn_of after_iac leads closes
turn-apt Data n b = choice (apt n) (eqb b iac) (λ e. tt) (λ e. refl)
turn-apt IacSeen n b = choice (apt n) (eqb b iac) (λ e. refl) (λ e. by (lead b))
  where
    by : (l : Lead) → apt n (leads l n b)
    by Faulty = tt
    by Opens = tt
    by (Negotiates v) = tt
    by Simple = tt
turn-apt (Choosing v) n b = tt
turn-apt Opening n b = tt
turn-apt (Payload o) n b = choice (apt n) (eqb b iac) (λ e. tt) (λ e. grows-apt o n)
turn-apt (Closing o) n b =
    choice (apt n) (eqb b iac) (λ e. grows-apt o n) (λ e. choice (apt n) (eqb b se) (λ f. tt) (λ f. tt))
turn-apt (Failed f) n b = tt

pub turn_is : (s : Stage) (n b : ℕ) (t : Turn) (a : Act) → t ≡ turn_of s n b → t.act ≡ a → Apt n a t.stage
turn_is s n b t a e k = subst (λ (x : Act). Apt n x t.stage) k (subst (apt n) (sym e) (turn-apt s n b))
