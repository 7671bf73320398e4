-- By which numbers an entry point refuses, and that it then leaves all as it was. The number that an answer refuses by
-- is said beside the answer, in the crate that declares it.
use Rattle.std.specs.Prelude.{ℕ, Bool, false, ◌||◌, List, [], ◌∷◌, T, eqb, ◌≡◌, if◌then◌else◌}
use Rattle.refusal.specs.Refusal.{no_room, off_answered_by_on}
use Rattle.refusal.specs.RefusedBy.{RefusalNumber, no_refusal, refused_by, by_number}

-- the number of a receipt of an option command: 14 is a note
abbrev pub by_receipt : ℕ → RefusalNumber
by_receipt n = if eqb n off_answered_by_on then no_refusal else by_number n

-- the number of a call that takes a fragment: 2, 3 and 6 are faults of the stream, which are no refusal
abbrev pub by_feed : ℕ → RefusalNumber
by_feed n = if eqb n no_room then refused_by n else no_refusal

-- a number is among some
unfoldable pub one_of : List ℕ → ℕ → Bool
one_of [] n = false
one_of (m ∷ ms) n = eqb n m || one_of ms n

-- An entry point refuses by one of these numbers only, and then leaves what it was lent, or was given as a state, as it
-- found it.
abbrev pub Refuses : List ℕ → {L : Type 0} → L → L → RefusalNumber → Type 0
Refuses numbers found left no_refusal = Unit {0}
Refuses numbers found left (refused_by n) = T (one_of numbers n) × (left ≡ found)
