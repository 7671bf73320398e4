-- The first bad record decides: the theorems `Theorems.FirstRecordDecides` and `Theorems.AtMost500`. Assumes nothing.
use mathlib.Core.Path.{◌≡◌, refl, sym, ap, ◌∙◌}
use mathlib.Core.Bool.{Bool, true, false}
use mathlib.Core.List.{List, [], ◌∷◌, ◌++◌, append_assoc}
use mathlib.Core.Logic.{◌⊎◌, inl, inr, ⊎_elim}
use Prim.Native.Nat.{ℕ, zero, suc, ◌+◌, ◌-◌, ◌^◌, ◌<◌}
use native.Mathlib.Omega.{arith}
use lib.Dec.{T}
use lib.ListN.{length}
use denote.Floats.{is_true}
use Rattle.octets.specs.Bytes.{Bytes}
use Rattle.refusal.specs.declared.Refusal.{Refusal}
use Rattle.refusal.specs.declared.Refusal.TheVariants.{BadProfile, ProfilesNotAscending}
use Rattle.names.specs.Name.{profile_limit}
use Rattle.names.specs.Order.{precedes}
use Rattle.profile.specs.Profile.{Shape, shape_of, Profile, body_length, record_bytes}
use Rattle.profile.specs.Table.{name_at, is_record, table_refused, add_profile, profiles_from, table_of, records_bytes}
use Rattle.profile.specs.Theorems.{WellFormed, Ascending, last_name, Malformed, FirstRecordDecides, AtMost500}
use Rattle.profile.proofs.Fronts.{fronts}
use Rattle.profile.proofs.Shapes.{short, by-records}
use Rattle.profile.proofs.Steps.{malformed, too_many, not-ascending}
use Rattle.profile.proofs.Tables.{next-record, tables-read-back}
use Rattle.profile.proofs.Backs.{backs}

is_false : (b : Bool) → (T b → ⊥) → b ≡ false
is_false true never = absurd (never tt)
is_false false never = refl

some-there : (l : List ℕ) → (l ≡ [] → ⊥) → 0 < length l
some-there [] never = absurd (never refl)
some-there (b ∷ l) never = omega arith

-- the name that the next record must come after, where the first record came after one
last_from : List ℕ → List Profile → List ℕ
last_from before [] = before
last_from before (p ∷ ps) = last_from p.name ps

last-from : (p : Profile) (ps : List Profile) → last_from p.name ps ≡ last_name (p ∷ ps)
unfolding last_from last_name
last-from p [] = refl
last-from p (q ∷ ps) = last-from q ps

last_name_lem : (ps : List Profile) → last_from [] ps ≡ last_name ps
unfolding last_from last_name
last_name_lem [] = refl
last_name_lem (p ∷ ps) = last-from p ps

module _ (s : Shape) (short : body_length s profile_limit < 2 ^ 16) where
  -- What is refused after good records is refused with them.
  passed : (room left : ℕ) (before : List ℕ) (ps : List Profile) (rest : List ℕ) (e : Refusal)
      → Ascending s before ps → length ps + left ≡ room
      → profiles_from s left (last_from before ps) rest ≡ table_refused e
      → profiles_from s room before (records_bytes ps ++ rest) ≡ table_refused e
  unfolding records_bytes add_profile last_from
  passed room left before [] rest e asc room-is h = let same : left ≡ room = omega arith in rw (← same) h
  passed zero left before (p ∷ ps) rest e asc room-is h = absurd (omega arith)
  passed (suc room) left before (p ∷ ps) rest e (w, (b, asc)) room-is h =
      rw append_assoc (next-record s short room before p (records_bytes ps ++ rest) w b
      ∙ ap (add_profile p) (passed room left p.name ps rest e asc (omega arith) h))

  -- bytes at whose front there is no record of a well-formed profile are not a record
  no_record : (bs : List ℕ) → Bytes bs → Malformed s bs → is_record s bs ≡ false
  no_record bs g bad =
      is_false (is_record s bs) (λ t. let b = backs s bs g t in bad _ _ b.good (sym b.whole))

  -- a record whose name does not come after the name before it, or for which there is no room
  misplaced : (room : ℕ) (before : List ℕ) (p : Profile) (more : List ℕ) → WellFormed s p
      → (T (precedes before p.name) → ⊥) ⊎ (room ≡ 0)
      → profiles_from s room before (record_bytes p ++ more) ≡ table_refused ProfilesNotAscending
  misplaced room before p more w why =
      let bs = record_bytes p ++ more in
      let f = fronts s p more w short in
      let good : is_record s bs ≡ true = is_true (is_record s bs) f.is in
      ⊎_elim
      (λ never.
      let wrong : precedes before (name_at bs) ≡ false = rw f.named (is_false (precedes before p.name) never) in
      not-ascending s before bs f.some room good wrong)
      (λ none. rw none (too_many s before bs f.some good))
      why

  -- more records than there is room for
  one-too-many : (room : ℕ) (before : List ℕ) (ps : List Profile) → Ascending s before ps → room < length ps
      → profiles_from s room before (records_bytes ps) ≡ table_refused ProfilesNotAscending
  unfolding records_bytes add_profile
  one-too-many room before [] asc many = absurd (omega arith)
  one-too-many zero before (p ∷ ps) (w, (b, asc)) many = misplaced zero before p (records_bytes ps) w (inr refl)
  one-too-many (suc room) before (p ∷ ps) (w, (b, asc)) many =
      next-record s short room before p (records_bytes ps) w b
      ∙ ap (add_profile p) (one-too-many room p.name ps asc (omega arith))

pub first-record-decides : FirstRecordDecides
first-record-decides v known ps asc few rest g =
    let s = shape_of v in
    let left = 500 - length ps in
    let reads = by-records v (records_bytes ps ++ rest) known in
    let after = passed s (short v) 500 left [] ps rest in
    record {
      malformed = λ some bad.
          let here = malformed s (last_from [] ps) rest (some-there rest some) left (no_record s (short v) rest g bad) in
          reads ∙ after BadProfile asc (omega arith) here;
      misplaced = λ p more w e why.
          let why-here : (T (precedes (last_from [] ps) p.name) → ⊥) ⊎ (left ≡ 0) =
          ⊎_elim (λ never. inl (rw last_name_lem never)) (λ all. inr (omega arith)) why in
          reads ∙ after ProfilesNotAscending asc (omega arith) (rw e (misplaced s (short v) left (last_from [] ps) p more w why-here));
    }

pub at-most-500 : AtMost500
at-most-500 v known ps asc = (
  λ few. tables-read-back v known ps asc (omega arith),
  λ many. by-records v (records_bytes ps) known ∙ one-too-many (shape_of v) (short v) 500 [] ps asc (omega arith),
)
