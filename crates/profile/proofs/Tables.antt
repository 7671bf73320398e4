-- Records and tables read back: the theorems `Theorems.RecordsReadBack` and `Theorems.TablesReadBack`. Assumes nothing.
use mathlib.Core.Path.{◌≡◌, refl, ◌∙◌}
use mathlib.Core.List.{List, [], ◌∷◌, ◌++◌}
use Prim.Native.Nat.{ℕ, zero, suc, ◌+◌, ◌^◌, ◌≤◌, ◌<◌}
use native.Mathlib.Omega.{arith}
use lib.ListN.{length}
use mathlib.Core.Bool.{Bool, true}
use lib.Dec.{T}
use denote.Floats.{is_true}
use Rattle.names.specs.Name.{profile_limit}
use Rattle.names.specs.Order.{precedes}
use Rattle.profile.specs.Profile.{Shape, shape_of, Profile, body_length, record_bytes}
use Rattle.profile.specs.Table.{profile_count, name_at, is_record, TableReading, profiles, add_profile, unless_end, profiles_from, table_of, records_bytes, table_bytes}
use Rattle.profile.specs.Theorems.{WellFormed, Ascending, RecordsReadBack, TablesReadBack}
use Rattle.profile.proofs.Fronts.{Fronts, fronts}
use Rattle.profile.proofs.Shapes.{short, by-records}
use Rattle.profile.proofs.Steps.{one_more}

-- a record that comes after the name before it, where there is room
pub next-record : (s : Shape) → body_length s profile_limit < 2 ^ 16 → (room : ℕ) (before : List ℕ) (p : Profile) (rest : List ℕ)
    → WellFormed s p → T (precedes before p.name)
    → profiles_from s (suc room) before (record_bytes p ++ rest) ≡ add_profile p (profiles_from s room p.name rest)
next-record s short room before p rest w b =
    let bs = record_bytes p ++ rest in
    let f = fronts s p rest w short in
    let right : precedes before (name_at bs) ≡ true = rw f.named (is_true (precedes before p.name) b) in
    one_more s before bs f.some room (is_true (is_record s bs) f.is) right ∙ rw (f.says, f.after, f.named)

pub records-read-back : RecordsReadBack
unfolding profiles_from records_bytes add_profile unless_end
records-read-back s short zero before [] asc few = refl
records-read-back s short (suc room) before [] asc few = refl
records-read-back s short zero before (p ∷ ps) asc few = absurd (omega arith)
records-read-back s short (suc room) before (p ∷ ps) (w, (b, asc)) few =
    next-record s short room before p (records_bytes ps) w b ∙ rw (records-read-back s short room p.name ps asc (omega arith))

pub tables-read-back : TablesReadBack
tables-read-back v known ps asc few =
    by-records v (records_bytes ps) known ∙ records-read-back (shape_of v) (short v) profile_count [] ps asc few
