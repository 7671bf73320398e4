-- Variables, their bytes and their records: what is recorded is held again (`Theorems.HoldsAgain`). Assumes nothing.
use mathlib.Core.Path.{◌≡◌, refl, sym, ap, ◌∙◌}
use mathlib.Core.List.{List, [], ◌∷◌, ◌++◌, map, append_assoc}
use mathlib.Core.Bool.{◌||◌, ◌&&◌}
use Prim.Native.Nat.{ℕ, ◌+◌, ◌*◌, ◌≤◌}
use native.Mathlib.Omega.{arith}
use lib.Dec.{T, eqb, le→leb}
use lib.ListN.{length, drop, length-append, take-append-drop}
use lib.Seq.{take-append_seam, drop-append_seam, drop-drop}
use mir.Facts.{and_yes, yes_and}
use Rattle.octets.specs.Lent.{overwrite}
use Rattle.octets.proofs.Overwrite.{take-overwrite, length-overwrite}
use Rattle.env.specs.Variable.{Value, undefined, defined, Variable, is_kind}
use Rattle.env.specs.Write.{kinds_good}
use Rattle.env.specs.Numbers.{record_width, variable_record, records_of, DEFINED, mark_of, bytes_of, value_by, packed, recorded, variable_of, variables_held}
use Rattle.env.specs.Numbers.{fits, empty_if_undefined, is_placed, all_placed, placed}
use Rattle.octets.specs.Part.{part}
use Rattle.env.specs.Theorems.{HoldsAgain}
use Rattle.env.proofs.Records.{records-short, records-cons, records-before}

pub length-recorded : (at : ℕ) (vs : List Variable) → length (recorded at vs) ≡ record_width * length vs
unfolding recorded
length-recorded at [] = refl
length-recorded at (v ∷ vs) = omega (arith, length-recorded (at + length v.name + length (bytes_of v.value)) vs)

-- the records of variables, and after them those of other numbers
pub recorded-before : (at : ℕ) (vs : List Variable) (l : List ℕ) → records_of (recorded at vs ++ l) ≡ records_of (recorded at vs) ++ records_of l
unfolding recorded
recorded-before at [] l = ap (λ rs. rs ++ records_of l) (sym (records-short [] (omega arith)))
recorded-before at (v ∷ vs) l =
    let next = at + length v.name + length (bytes_of v.value) in
    rw records-cons (records-before _ _ (recorded-before next vs l))

-- a list that begins with a ++ b: a is in front, and b after it
part_apart : (bytes : List ℕ) (at : ℕ) (a b : List ℕ) → part bytes at (length (a ++ b)) ≡ a ++ b
    → (part bytes at (length a) ≡ a) × (part bytes (at + length a) (length b) ≡ b)
unfolding part
part_apart bytes at a b h =
    let rest = drop (length (a ++ b)) (drop at bytes) in
    let e : drop at bytes ≡ a ++ (b ++ rest) = sym (take-append-drop (length (a ++ b)) (drop at bytes)) ∙ rw (h, append_assoc) in
    (rw e (take-append_seam a (b ++ rest)), rw (← drop-drop (length a) at bytes, e, drop-append_seam a (b ++ rest)) (take-append_seam b rest))

-- a value by its own mark and bytes
value-by : (v : Value) → value_by (mark_of v) (bytes_of v) ≡ v
unfolding value_by mark_of bytes_of
value-by undefined = refl
value-by (defined value) = refl

-- where variables are packed, their records hold them
pub held-recorded : (bytes : List ℕ) (at : ℕ) (vs : List Variable) → part bytes at (length (packed vs)) ≡ packed vs
    → variables_held bytes (recorded at vs) ≡ vs
unfolding packed recorded variables_held
held-recorded bytes at [] h = ap (map (variable_of bytes)) (records-short [] (omega arith))
held-recorded bytes at (v ∷ vs) h =
    let name = part_apart bytes at v.name (bytes_of v.value ++ packed vs) h in
    let value = part_apart bytes (at + length v.name) (bytes_of v.value) (packed vs) name.1 in
    rw (records-cons, name.0, value.0, value-by v.value, held-recorded bytes (at + length v.name + length (bytes_of v.value)) vs value.1)

-- an undefined value has no bytes
empty-recorded : (v : Value) → T (eqb (mark_of v) DEFINED || eqb (length (bytes_of v)) 0)
unfolding mark_of bytes_of
empty-recorded undefined = tt
empty-recorded (defined value) = tt

-- where variables have kinds, and room, their records are placed
pub placed-recorded : (bytes : List ℕ) (at : ℕ) (vs : List Variable) → T (kinds_good vs) → at + length (packed vs) ≤ length bytes
    → T (placed bytes (recorded at vs))
unfolding packed recorded placed all_placed fits kinds_good
placed-recorded bytes at [] g h = rw (records-short [] (omega arith)) tt
placed-recorded bytes at (v ∷ vs) g h =
    let good = and_yes (is_kind v.kind) (kinds_good vs) g in
    let name = length v.name in
    let value = length (bytes_of v.value) in
    let all : at + (name + (value + length (packed vs))) ≤ length bytes = simp length-append at h in
    let r = variable_record v.kind at name (at + name) value (mark_of v.value) in
    let in-name = le→leb (at + name) (length bytes) (omega arith) in
    let in-value = le→leb (at + name + value) (length bytes) (omega arith) in
    rw records-cons
    (yes_and (is_placed bytes r) (placed bytes (recorded (at + name + value) vs))
    (yes_and (is_kind v.kind) (fits bytes at name && (fits bytes (at + name) value && empty_if_undefined r)) good.0
    (yes_and (fits bytes at name) (fits bytes (at + name) value && empty_if_undefined r) in-name
    (yes_and (fits bytes (at + name) value) (empty_if_undefined r) in-value (empty-recorded v.value))))
    (placed-recorded bytes (at + name + value) vs good.1 (omega arith)))

pub holds-again : HoldsAgain
unfolding part
holds-again bytes at vs h =
    let after = overwrite bytes at (packed vs) in
    let fit : at + length (packed vs) ≤ length after = rw (length-overwrite bytes at (packed vs) h) h in
    (held-recorded after at vs (take-overwrite bytes at (packed vs) h), λ g. placed-recorded after at vs g fit)
