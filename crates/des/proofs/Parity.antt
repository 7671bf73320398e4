-- The parity bits of a key are ignored (`Theorems.ParityIgnored`): permuted choice 1 has none of their places. Assumes
-- nothing.
use mathlib.Core.Path.{◌≡◌, refl, ap₂}
use mathlib.Core.Bool.{Bool, true, ◌&&◌}
use mathlib.Core.List.{List, [], ◌∷◌, map}
use Prim.Native.Nat.{ℕ, ◌%◌}
use lib.Dec.{T, leb, leb→le}
use mir.Facts.{and_yes}
use Rattle.des.specs.Blocks.{bit, permuted}
use Rattle.des.specs.Schedule.{round_keys}
use Rattle.des.specs.Tables.{PC-1}
use Rattle.des.specs.Theorems.{AgreeOffParity, ParityIgnored}

-- a place of a key that is no parity bit's
abbrev free : ℕ → Bool
free p = leb 1 p && (leb p 64 && leb 1 (p % 8))

abbrev all-free : List ℕ → Bool
all-free [] = true
all-free (p ∷ ps) = free p && all-free ps

same_bits : (j k : ℕ) → AgreeOffParity j k → (t : List ℕ) → T (all-free t) → map (bit 64 j) t ≡ map (bit 64 k) t
same_bits j k h [] y = refl
same_bits j k h (p ∷ ps) y =
    let z = and_yes (free p) (all-free ps) y in
    let q = and_yes (leb 1 p) (leb p 64 && leb 1 (p % 8)) z.0 in
    let r = and_yes (leb p 64) (leb 1 (p % 8)) q.1 in
    ap₂ ◌∷◌ (h p (leb→le 1 p q.0) (leb→le p 64 r.0) (leb→le 1 (p % 8) r.1)) (same_bits j k h ps z.1)

same-choice : (j k : ℕ) → AgreeOffParity j k → permuted 64 PC-1 j ≡ permuted 64 PC-1 k
unfolding permuted
same-choice j k h = rw (same_bits j k h PC-1 tt)

pub parity-ignored : ParityIgnored
unfolding round_keys
parity-ignored j k h = rw (same-choice j k h)
