-- What one call does to a standing, from either end; and that a line of the code holds its commands whole. Assumes
-- nothing.
use Rattle.std.specs.Prelude.{if◌then◌else◌}
use mathlib.Core.Path.{◌≡◌, refl, ap}
use Prim.Native.Nat.{ℕ, ◌+◌, ◌-◌, ◌≤◌, ◌<◌}
use native.Mathlib.Nat.{add-zero}
use native.Mathlib.Omega.{arith}
use mathlib.Core.Bool.{Bool, true, false}
use mathlib.Core.List.{[], ◌∷◌}
use borrow.Author.Tests.{lt-ltb, le-ltb}
use lib.ListN.{take}
use Rattle.option_rules.specs.declared.Side.{Side}
use Rattle.option_ends.specs.declared.Line.{Line}
use Rattle.option_ends.specs.declared.Line.TheVariants.{Empty, One, Two}
use Rattle.option_ends.specs.declared.Peer.{Peer}
use Rattle.option_rules.specs.Table.{Row, rules_of}
use Rattle.option_ends.specs.Ends.{near, far, Act, ◌does◌, Ends, at, CallResult, nothing, requested, received, call_result, stepped, changed, move}
use Rattle.option_ends.specs.Ends.{after, count_where, sends, granted}
use Rattle.option_ends.specs.Replay.{act_of, call_of, Standing, commands, at_end, both_ends}
use Rattle.option_ends.specs.Internal.Turn.{plus, onward, clipped, turn}

pub room : (l : Line) → take 2 (commands l) ≡ commands l
room Empty = refl
room (One c) = refl
room (Two c d) = refl

-- at most one
one_at_most : (b : Bool) → (if b then 1 else 0) ≤ 1
one_at_most true = omega arith
one_at_most false = omega arith

-- the same ends, each in the other's place
abbrev pub swap : Ends → Ends
swap t = record { at_near = t.at_far; at_far = t.at_near }

-- what a turn adds to a standing, with its ends as they are or each in the other's place
abbrev pub add : Standing → Standing → Standing
add s d = plus s d d.at

abbrev pub add-swapped : Standing → Standing → Standing
add-swapped s d = plus s d (swap d.at)

near-turn : (rules : Side → Row) (s : Standing) (a : Act)
    → onward rules s ((near does a) ∷ []) ≡ add s (turn s.at (call_result rules s.at.at_near a))
unfolding onward after count_where move at
near-turn rules s a = refl

from-far : (s : Standing) (m : CallResult)
    → ◌≡◌ {A = Standing}
    (record {
      at = changed s.at far m;
      sent = s.sent + (if sends far m then 1 else 0);
      granted = s.granted + (if granted far m then 1 else 0);
    })
    (add-swapped s (turn (swap s.at) m))
unfolding changed stepped at sends granted
from-far s nothing = refl
from-far s (requested d) = refl
from-far s (received accepting rest d) = refl

far-turn : (rules : Side → Row) (s : Standing) (a : Act)
    → onward rules s ((far does a) ∷ []) ≡ add-swapped s (turn (swap s.at) (call_result rules s.at.at_far a))
unfolding onward after count_where move at
far-turn rules s a = from-far s (call_result rules s.at.at_far a)

-- What a byte does.

module _ (rules : Side → Row) (s : Standing) (b : ℕ) where
  pub near_call : b < 4 → onward rules s (call_of b) ≡ add s (turn s.at (call_result rules s.at.at_near (act_of b)))
  unfolding call_of
  near_call h = rw (lt-ltb b 4 h) (near-turn rules s (act_of b))

  pub far_call : 4 ≤ b → b < 8
      → onward rules s (call_of b) ≡ add-swapped s (turn (swap s.at) (call_result rules s.at.at_far (act_of (b - 4))))
  unfolding call_of
  far_call l h = rw (le-ltb b 4 l, lt-ltb b 8 h) (far-turn rules s (act_of (b - 4)))

  pub no_call : 8 ≤ b → onward rules s (call_of b) ≡ s
  unfolding call_of onward after count_where
  no_call h =
      let l : 4 ≤ b = omega arith in
      rw (le-ltb b 4 l, le-ltb b 8 h, add-zero s.sent, add-zero s.granted)

-- an act sends at most one command and grants at most one request
pub few : (option : ℕ) (p q : Peer) (n : ℕ) (d : Standing)
    → d ≡ clipped (turn (both_ends p q) (call_result (rules_of option) (at_end p) (act_of n))) → (d.sent ≤ 1) × (d.granted ≤ 1)
few option p q n d e =
    let m = call_result (rules_of option) (at_end p) (act_of n) in (
      rw (ap (λ (s : Standing). s.sent) e) (one_at_most (sends near m)),
      rw (ap (λ (s : Standing). s.granted) e) (one_at_most (granted near m)),
    )
