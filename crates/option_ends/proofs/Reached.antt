-- The pairs of ends that calls can lead to, found by walking from the fresh pair, and one computed test of them all.
-- Assumes nothing.
use Rattle.std.specs.Prelude.{if◌then◌else◌}
use mathlib.Core.Path.{◌≡◌, refl, sym, ap, ap₂, subst⁻¹, ◌∙◌}
use mathlib.Core.Logic.{◌⊎◌, inl, inr}
use Prim.Native.Nat.{ℕ, zero, suc, ◌+◌, ◌≤◌, ◌<◌}
use mathlib.Core.Bool.{Bool, true, false, ◌&&◌, ◌||◌}
use mathlib.Core.List.{List, [], ◌∷◌, ◌++◌, map}
use native.Mathlib.Omega.{arith}
use lib.Dec.{T, eqb, leb, leb→le, eqb→eq, lit<}
use lib.ListN.{length, get_or}
use mir.Facts.{and_yes, or_yes}
use Rattle.option_rules.specs.declared.Command.{Command}
use Rattle.option_rules.specs.declared.Command.TheVariants.{On as on, Off as off}
use Rattle.option_rules.specs.declared.Side.{Side}
use Rattle.option_rules.specs.declared.Side.TheVariants.{Off, On, WantOff, WantOffThenOn, WantOn, WantOnThenOff}
use Rattle.option_rules.specs.Table.{table}
use Rattle.option_ends.specs.Ends.{End, near, far, Act, request, receive, Call, ◌does◌, AtEnd, Ends, at, fresh}
use Rattle.option_ends.specs.Ends.{taken, call_result, sent_by, stepped, changed, move, is_command, sends, is_refusal, granted}
use Rattle.option_ends.specs.Agreement.{Quiet, Both}

-- Two pairs of ends are the same.

code : Side → ℕ
code Off = 0
code On = 1
code WantOff = 2
code WantOffThenOn = 3
code WantOn = 4
code WantOnThenOff = 5

same_command : Command → Command → Bool
same_command on on = true
same_command on off = false
same_command off on = false
same_command off off = true

same_line : List Command → List Command → Bool
same_line [] [] = true
same_line [] (d ∷ m) = false
same_line (c ∷ l) [] = false
same_line (c ∷ l) (d ∷ m) = same_command c d && same_line l m

same_at : AtEnd → AtEnd → Bool
same_at x y = eqb (code x.state) (code y.state) && same_line x.coming y.coming

same_ends : Ends → Ends → Bool
same_ends t u = same_at t.at_near u.at_near && same_at t.at_far u.at_far

-- The walk.

pub member : Ends → List Ends → Bool
member t [] = false
member t (u ∷ us) = same_ends t u || member t us

calls : List Call
calls =
    (near does request on) ∷ (near does request off) ∷ (near does receive true) ∷ (near does receive false) ∷
    (far does request on) ∷ (far does request off) ∷ (far does receive true) ∷ (far does receive false) ∷ []

walk : ℕ → List Ends → List Ends → List Ends
walk zero todo seen = seen
walk (suc n) [] seen = seen
walk (suc n) (t ∷ todo) seen = if member t seen then walk n todo seen else walk n (map (move table t) calls ++ todo) (t ∷ seen)

pub reached : List Ends
reached = walk 433 (fresh ∷ []) []

-- The weight of an end: 2 for a request in its queue, 1 for a command on the way to it while it rests, 1 for a second
-- command on the way. A request that is not refused pays 2, and a command costs 1.

on_the_way : Side → List Command → ℕ
on_the_way Off (c ∷ l) = 1
on_the_way On (c ∷ l) = 1
on_the_way Off [] = 0
on_the_way On [] = 0
on_the_way WantOff l = 0
on_the_way WantOffThenOn l = 2
on_the_way WantOn l = 0
on_the_way WantOnThenOff l = 2

second : List Command → ℕ
second [] = 0
second (c ∷ []) = 0
second (c ∷ d ∷ l) = 1

weight_at : AtEnd → ℕ
weight_at x = on_the_way x.state x.coming + second x.coming

pub weight : Ends → ℕ
weight t = weight_at t.at_near + weight_at t.at_far

pub weightless : weight fresh ≡ 0
unfolding weight weight_at on_the_way second
weightless = refl

-- The test.

every : {A : Type 0} → (A → Bool) → List A → Bool
every f [] = true
every f (x ∷ xs) = f x && every f xs

short : AtEnd → Bool
short x = leb (length x.coming) 2

resting : Side → Bool
resting s = leb (code s) 1

-- with nothing on either way, both rest in the same state
agreeing : List Command → List Command → Side → Side → Bool
agreeing [] [] s u = resting s && eqb (code s) (code u)
agreeing [] (c ∷ l) s u = true
agreeing (c ∷ l) m s u = true

-- a call leads to a pair that was reached, and is paid for
pays : Ends → Call → Bool
pays t (e does a) =
    let d = call_result table (at t e) a in
    leb ((if sends e d then 1 else 0) + weight (changed t e d)) ((if granted e d then 2 else 0) + weight t)

closes : Ends → Call → Bool
closes t k = member (move table t k) reached && pays t k

passes : Ends → Bool
passes t =
    short t.at_near && short t.at_far
    && agreeing t.at_near.coming t.at_far.coming t.at_near.state t.at_far.state
    && every (closes t) calls

all_pass : T (every passes reached)
unfolding every passes closes pays agreeing resting short weight weight_at second on_the_way sends is_command granted is_refusal reached walk
    member same_ends same_at same_line same_command code calls move changed stepped sent_by call_result taken at
all_pass = tt

-- What the test says of each.

decode : ℕ → Side
decode n = get_or (Off ∷ On ∷ WantOff ∷ WantOffThenOn ∷ WantOn ∷ WantOnThenOff ∷ []) n Off

decoded : (s : Side) → decode (code s) ≡ s
unfolding decode code
decoded Off = refl
decoded On = refl
decoded WantOff = refl
decoded WantOffThenOn = refl
decoded WantOn = refl
decoded WantOnThenOff = refl

same-side : (s u : Side) → T (eqb (code s) (code u)) → s ≡ u
same-side s u t = sym (decoded s) ∙ ap decode (eqb→eq (code s) (code u) t) ∙ decoded u

same-command : (c d : Command) → T (same_command c d) → c ≡ d
unfolding same_command
same-command on on t = refl
same-command on off t = absurd t
same-command off on t = absurd t
same-command off off t = refl

same_line_lem : (l m : List Command) → T (same_line l m) → l ≡ m
unfolding same_line
same_line_lem [] [] t = refl
same_line_lem [] (d ∷ m) t = absurd t
same_line_lem (c ∷ l) [] t = absurd t
same_line_lem (c ∷ l) (d ∷ m) t =
    let h = and_yes (same_command c d) (same_line l m) t in
    ap₂ ◌∷◌ (same-command c d h.0) (same_line_lem l m h.1)

same_at_lem : (x y : AtEnd) → T (same_at x y) → x ≡ y
unfolding same_at
same_at_lem x y t =
    let h = and_yes (eqb (code x.state) (code y.state)) (same_line x.coming y.coming) t in
    let s = same-side x.state y.state h.0 in
    let l = same_line_lem x.coming y.coming h.1 in
    ap₂ (λ (a : Side) (b : List Command). record { state = a; coming = b }) s l

same_ends_lem : (t u : Ends) → T (same_ends t u) → t ≡ u
unfolding same_ends
same_ends_lem t u s =
    let h = and_yes (same_at t.at_near u.at_near) (same_at t.at_far u.at_far) s in
    let n = same_at_lem t.at_near u.at_near h.0 in
    let f = same_at_lem t.at_far u.at_far h.1 in
    ap₂ (λ (a b : AtEnd). record { at_near = a; at_far = b }) n f

every-member : (f : Ends → Bool) (us : List Ends) → T (every f us) → (t : Ends) → T (member t us) → T (f t)
unfolding every member
every-member f [] a t m = absurd m
every-member f (u ∷ us) a t m = go (or_yes (same_ends t u) (member t us) m) (λ n. every-member f us (and_yes (f u) (every f us) a).1 t n)
  where
    go : T (same_ends t u) ⊎ T (member t us) → (T (member t us) → T (f t)) → T (f t)
    go (inl s) r = subst⁻¹ (λ (x : Ends). T (f x)) (same_ends_lem t u s) (and_yes (f u) (every f us) a).0
    go (inr n) r = r n

nth-true : (f : Call → Bool) (ks : List Call) (n : ℕ) → T (every f ks) → n < length ks → T (f (get_or ks n (near does request on)))
unfolding every
nth-true f [] n a h = let z : ⊥ = omega (arith, h) in absurd z
nth-true f (k ∷ ks) zero a h = (and_yes (f k) (every f ks) a).0
nth-true f (k ∷ ks) (suc n) a h = nth-true f ks n (and_yes (f k) (every f ks) a).1 (omega (arith, h))

every_call : (f : Call → Bool) → T (every f calls) → (k : Call) → T (f k)
unfolding calls
every_call f a (near does request on) = nth-true f calls 0 a (lit< tt)
every_call f a (near does request off) = nth-true f calls 1 a (lit< tt)
every_call f a (near does receive true) = nth-true f calls 2 a (lit< tt)
every_call f a (near does receive false) = nth-true f calls 3 a (lit< tt)
every_call f a (far does request on) = nth-true f calls 4 a (lit< tt)
every_call f a (far does request off) = nth-true f calls 5 a (lit< tt)
every_call f a (far does receive true) = nth-true f calls 6 a (lit< tt)
every_call f a (far does receive false) = nth-true f calls 7 a (lit< tt)

passed : (t : Ends) → T (member t reached) → T (passes t)
passed = every-member passes reached all_pass

-- The ends are among those that were reached.
abbrev pub Reachable : Ends → Type 0
Reachable t = T (member t reached)

pub reachable-fresh : Reachable fresh
unfolding reached walk member same_ends same_at same_line same_command code calls move changed stepped sent_by call_result taken at
reachable-fresh = tt

rested : (s u : Side) → T (resting s && eqb (code s) (code u)) → ((s ≡ On) × (u ≡ On)) ⊎ ((s ≡ Off) × (u ≡ Off))
unfolding resting code
rested On u h = inl (refl, sym (same-side On u h))
rested Off u h = inr (refl, sym (same-side Off u h))
rested WantOff u h = absurd h
rested WantOffThenOn u h = absurd h
rested WantOn u h = absurd h
rested WantOnThenOff u h = absurd h

module _ (t : Ends) (r : Reachable t) where
  parts :
      T (short t.at_near) × T (short t.at_far)
      × T (agreeing t.at_near.coming t.at_far.coming t.at_near.state t.at_far.state)
      × T (every (closes t) calls)
  unfolding passes
  parts =
      let agree = agreeing t.at_near.coming t.at_far.coming t.at_near.state t.at_far.state in
      let k = and_yes (short t.at_near && short t.at_far && agree) (every (closes t) calls) (passed t r) in
      let a = and_yes (short t.at_near && short t.at_far) agree k.0 in
      let s = and_yes (short t.at_near) (short t.at_far) a.0 in
      (s.0, s.1, a.1, k.1)

  pub lines-short : (e : End) → length (at t e).coming ≤ 2
  unfolding short at
  lines-short near = leb→le _ _ parts.0
  lines-short far = leb→le _ _ parts.1

  closed : (k : Call) → T (member (move table t k) reached) × T (pays t k)
  unfolding closes
  closed k = and_yes (member (move table t k) reached) (pays t k) (every_call (closes t) parts.3 k)

  pub reachable-move : (k : Call) → Reachable (move table t k)
  reachable-move k = (closed k).0

  pub paid : (e : End) (a : Act)
      → (if sends e (call_result table (at t e) a) then 1 else 0) + weight (move table t (e does a))
      ≤ (if granted e (call_result table (at t e) a) then 2 else 0) + weight t
  unfolding pays move
  paid e a = leb→le _ _ (closed (e does a)).1

  pub quiet-rests : Quiet t → Both On t ⊎ Both Off t
  unfolding agreeing at
  quiet-rests q = go (rested t.at_near.state t.at_far.state (rw (q near, q far) at parts).2)
    where
      each : {s : Side} → t.at_near.state ≡ s → t.at_far.state ≡ s → Both s t
      each n f near = n
      each n f far = f

      go : ((t.at_near.state ≡ On) × (t.at_far.state ≡ On)) ⊎ ((t.at_near.state ≡ Off) × (t.at_far.state ≡ Off))
          → Both On t ⊎ Both Off t
      go (inl h) = inl (each h.0 h.1)
      go (inr h) = inr (each h.0 h.1)
