-- The laws of `specs/Internal/Turns.antt`: one turn, and then those that are left. Assumes nothing.
use mathlib.Core.Path.{◌≡◌, ap}
use mathlib.Core.List.{List}
use Prim.Native.Nat.{ℕ, suc, ◌+◌, ◌-◌, ◌<◌, ◌≤◌}
use native.Mathlib.Omega.{arith}
use Rattle.octets.specs.Lent.{Outcome, outcome}
use Rattle.option_line.specs.declared.Sent.{Sent}
use Rattle.play_options.specs.Internal.Turns.{turns}

pub turned : (turn : ℕ → Sent → List ℕ → Outcome Sent) (n i : ℕ) → i < n → (s : Sent) (line : List ℕ) {s' : Sent} {line' : List ℕ}
    → outcome s' line' ≡ turn i s line → turns turn (n - (i + 1)) (i + 1) s' line' ≡ turns turn (n - i) i s line
unfolding turns
turned turn n i h s line e =
    let more : n - i ≡ suc (n - (i + 1)) = omega arith in
    let further : i + 1 ≡ suc i = omega arith in
    rw (more, further) (ap (λ (o : Outcome Sent). turns turn (n - suc i) (suc i) o.answer o.lent) e)

pub no-turns : (turn : ℕ → Sent → List ℕ → Outcome Sent) (n i : ℕ) → n ≤ i → (s : Sent) (line : List ℕ) → turns turn (n - i) i s line ≡ outcome s line
unfolding turns
no-turns turn n i h s line =
    let none : n - i ≡ 0 = omega arith in
    rw none
