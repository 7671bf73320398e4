-- What was read is writable (`read-is-writable`, the theorem `Theorems.ReadIsWritable`): each step of the reading
-- completes writable events only, and keeps a payload within its limit. Assumes nothing.
use mathlib.Core.Path.{◌≡◌, refl}
use mathlib.Core.Bool.{Bool, true, false, not, ◌&&◌, ◌||◌}
use mathlib.Core.List.{List, [], ◌∷◌, ◌++◌}
use mathlib.Core.Logic.{⊎_elim}
use Prim.Native.Nat.{ℕ, suc, ◌≤◌, ◌<◌}
use native.Mathlib.Omega.{arith}
use lib.Dec.{T, eqb, ltb, leb, le→leb}
use lib.ListN.{length, length-append}
use borrow.Author.Tests.{ltb-true, ltb-false, eqb-false, le-leb, ne_eqb, eq-eqb}
use mir.Facts.{and_yes, yes_and}
use Rattle.octets.specs.Bytes.{Bytes}
use Rattle.octets.proofs.Choice.{choice}
use Rattle.octets.proofs.Order.{below-or-above}
use Rattle.telnet.specs.declared.Verb.{Verb}
use Rattle.telnet.specs.declared.Lead.{Lead}
use Rattle.telnet.specs.declared.Lead.TheVariants.{Faulty, Opens, Negotiates, Simple}
use Rattle.telnet.specs.Event.{Event, run, command, negotiation, subnegotiation, lead, iac, sb, se, eor, payload_limit}
use Rattle.telnet.specs.Write.{is_simple, writable}
use Rattle.telnet.specs.Whole.{Mode, data', iac_seen, choosing, opening, payload, closing, failed, Step, goes, ended, leads}
use Rattle.telnet.specs.Whole.{grown, step_byte, stops, reading_from, reading}
use Rattle.telnet.specs.Theorems.{all, ReadIsWritable}

all_append : (f : Event → Bool) (es fs : List Event) → T (all f es) → T (all f fs) → T (all f (es ++ fs))
unfolding all
all_append f [] fs h k = k
all_append f (e ∷ es) fs h k =
    let y = and_yes (f e) (all f es) h in
    yes_and (f e) (all f (es ++ fs)) y.0 (all_append f es fs y.1 k)

-- a byte after a 255 that begins a simple command is one
data Begins (c : ℕ) : Lead → Type 0 where
  faulty : Begins c Faulty
  opens : Begins c Opens
  negotiates : {v : Verb} → Begins c (Negotiates v)
  simple : T (is_simple c) → Begins c Simple

in-range : (c : ℕ) → 239 ≤ c → c ≤ 249 → (c ≡ se → ⊥) → T (is_simple c)
unfolding is_simple
in-range c low high ne =
    ⊎_elim (λ (h : c < 240). rw (eq-eqb c eor (omega arith)) tt)
    (λ h. let k = above h in rw (ne_eqb c eor (λ e. omega arith)) (yes_and (leb 241 c) (leb c 249) (le→leb 241 c k) (le→leb c 249 high)))
    (below-or-above c 240)
  where
    above : 240 ≤ c → 241 ≤ c
    above h = ⊎_elim (λ (k : c < 241). absurd (ne (omega arith))) (λ k. k) (below-or-above c 241)

not-se : (c : ℕ) → (ltb c eor || eqb c se) ≡ false → (239 ≤ c) × (c ≡ se → ⊥)
not-se c e = go (ltb c eor) (eqb c se) refl refl e
  where
    go : (a b : Bool) → ltb c eor ≡ a → eqb c se ≡ b → (a || b) ≡ false → (239 ≤ c) × (c ≡ se → ⊥)
    go false false l q e = (ltb-false c eor l, eqb-false c se q)
    go false true l q e = absurd (let z : ◌≡◌ {A = ℕ} 0 1 = cc in omega arith)
    go true b l q e = absurd (let z : ◌≡◌ {A = ℕ} 0 1 = cc in omega arith)

begins : (c : ℕ) → c < 256 → eqb c iac ≡ false → Begins c (lead c)
unfolding lead
begins c small ne =
    choice (Begins c) (ltb c eor || eqb c se) (λ _. faulty) λ a.
    choice (Begins c) (eqb c sb) (λ _. opens) λ e₀.
    choice (Begins c) (eqb c 251) (λ _. negotiates) λ e₁.
    choice (Begins c) (eqb c 252) (λ _. negotiates) λ e₂.
    choice (Begins c) (eqb c 253) (λ _. negotiates) λ e₃.
    choice (Begins c) (eqb c 254) (λ _. negotiates) λ e₄.
    simple
    (in-range c (not-se c a).0
    (omega (arith, eqb-false c sb e₀, eqb-false c 251 e₁, eqb-false c 252 e₂, eqb-false c 253 e₃, eqb-false c 254 e₄, eqb-false c iac ne))
    (not-se c a).1)

-- a payload that is being read keeps within its limit
Within : Mode → Type 0
Within (data' r) = Unit {0}
Within (iac_seen r) = Unit {0}
Within (choosing v) = Unit {0}
Within opening = Unit {0}
Within (payload o p) = length p ≤ payload_limit
Within (closing o p) = length p ≤ payload_limit
Within (failed why) = Unit {0}

-- a step that completes writable events only
record Sound (s : Step) : Type 0 where
  events : T (all writable s.completes)
  within : Within s.mode

ended-writable : (r : List ℕ) → T (all writable (ended r))
unfolding all ended writable
ended-writable [] = tt
ended-writable (d ∷ ds) = tt

grown-sound : (o : ℕ) (p : List ℕ) (b : ℕ) → Sound (grown o p b)
unfolding grown all Within
grown-sound o p b =
    choice Sound (ltb (length p) payload_limit)
    (λ h. record { events = tt; within = omega (arith, length-append p (b ∷ []), ltb-true (length p) payload_limit h) })
    (λ _. record { events = tt; within = tt })

leads-sound : (r : List ℕ) (l : Lead) (c : ℕ) → Begins c l → Sound (leads (ended r) l c)
unfolding leads all writable Within
leads-sound r Faulty c faulty = record { events = ended-writable r; within = tt }
leads-sound r Opens c opens = record { events = ended-writable r; within = tt }
leads-sound r (Negotiates v) c negotiates = record { events = ended-writable r; within = tt }
leads-sound r Simple c (simple h) =
    record { events = all_append writable (ended r) (command c ∷ []) (ended-writable r) (yes_and (is_simple c) true h tt); within = tt }

step-sound : (m : Mode) (b : ℕ) → b < 256 → Within m → Sound (step_byte m b)
unfolding step_byte all writable Within
step-sound (data' r) b h w =
    choice Sound (eqb b iac) (λ _. record { events = tt; within = tt }) (λ _. record { events = tt; within = tt })
step-sound (iac_seen r) b h w =
    choice Sound (eqb b iac) (λ _. record { events = tt; within = tt }) (λ e. leads-sound r (lead b) b (begins b h e))
step-sound (choosing v) b h w = record { events = tt; within = tt }
step-sound opening b h w = record { events = tt; within = omega arith }
step-sound (payload o p) b h w = choice Sound (eqb b iac) (λ _. record { events = tt; within = w }) (λ _. grown-sound o p b)
step-sound (closing o p) b h w =
    choice Sound (eqb b iac) (λ _. grown-sound o p b) λ _.
    choice Sound (eqb b se)
    (λ _. record { events = rw (le-leb (length p) payload_limit w) tt; within = tt })
    (λ _. record { events = tt; within = tt })
step-sound (failed why) b h w = record { events = tt; within = tt }

stops-writable : (m : Mode) → T (all writable (stops m).events)
unfolding stops all
stops-writable (data' r) = ended-writable r
stops-writable (iac_seen r) = ended-writable r
stops-writable (choosing v) = tt
stops-writable opening = tt
stops-writable (payload o p) = tt
stops-writable (closing o p) = tt
stops-writable (failed why) = tt

from-writable : (bs : List ℕ) (m : Mode) → Bytes bs → Within m → T (all writable (reading_from m bs).events)
unfolding reading_from
from-writable [] m g w = stops-writable m
from-writable (b ∷ bs) m g w =
    let s = step-sound m b (g 0) w in
    all_append writable (step_byte m b).completes (reading_from (step_byte m b).mode bs).events s.events
    (from-writable bs (step_byte m b).mode (λ i. g (suc i)) s.within)

pub read-is-writable : ReadIsWritable
unfolding reading Within
read-is-writable bs g = from-writable bs (data' []) g tt
