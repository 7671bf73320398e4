-- The part that a length announces and what is left after it, as the code takes them: by the number of the first two
-- bytes, each 0 where it is not there. Together they are all that follows the length. Assumes nothing.
use mathlib.Core.Path.{◌≡◌, refl}
use mathlib.Core.List.{List, [], ◌∷◌, ◌++◌}
use Prim.Native.Nat.{ℕ, ◌+◌, ◌*◌}
use lib.ListN.{get_or, take, drop, take-append-drop}
use lib.Seq.{take-nil, drop-nil}
use Rattle.octets.specs.Part.{part}
use Rattle.show_input.specs.Cut.{announced_in, left_after}

-- the number of the first two bytes
abbrev pub first_two : List ℕ → ℕ
first_two s = get_or s 0 0 * 256 + get_or s 1 0

part-announced : (s : List ℕ) → part s 2 (first_two s) ≡ announced_in s
unfolding announced_in part
part-announced [] = refl
part-announced (b ∷ []) = take-nil (b * 256 + 0)
part-announced (high ∷ low ∷ rest) = refl

part_left : (s : List ℕ) → drop (first_two s) (drop 2 s) ≡ left_after s
unfolding left_after
part_left [] = refl
part_left (b ∷ []) = drop-nil (b * 256 + 0)
part_left (high ∷ low ∷ rest) = refl

pub announced-by : (s rest : List ℕ) (n : ℕ) → rest ≡ s → n ≡ first_two rest → part rest 2 n ≡ announced_in s
announced-by s rest n e k = rw (k, e) (part-announced s)

pub left_by : (s rest body : List ℕ) (n : ℕ) → rest ≡ s → body ≡ drop 2 rest → n ≡ first_two rest
    → drop n body ≡ left_after s
left_by s rest body n e b k = rw (b, k, e) (part_left s)

pub rejoined : (s : List ℕ) → announced_in s ++ left_after s ≡ drop 2 s
unfolding announced_in left_after
rejoined [] = refl
rejoined (b ∷ []) = refl
rejoined (high ∷ low ∷ rest) = take-append-drop (high * 256 + low) rest
