-- What is found in a table is the profile that has the name and is at the place: the theorem
-- `Theorems.FoundIsNamed`. Assumes nothing.
use Rattle.std.specs.Prelude.{Ok}
use mathlib.Core.Path.{◌≡◌, refl, sym, ap, ◌∙◌}
use mathlib.Core.List.{List, [], ◌∷◌, ◌++◌}
use Prim.Native.Nat.{ℕ, ◌+◌}
use native.Mathlib.Omega.{arith}
use lib.ListN.{length, drop}
use lib.Seq.{drop-drop, drop-append_seam}
use Rattle.octets.specs.Same.{same}
use Rattle.octets.proofs.Choice.{choice₂}
use Rattle.profile.specs.Profile.{Profile, record_bytes}
use Rattle.profile.specs.Table.{profile_at, shape_in, profile_in, version_of, records_bytes}
use Rattle.profile.specs.Lookup.{no_profile, one_profile, profile_named}
use Rattle.profile.specs.Theorems.{Ascending}
use Rattle.profile.proofs.Fronts.{fronts}
use Rattle.profile.proofs.Shapes.{short}
use Rattle.profile.proofs.Backs.{tables-written-back}
use Rattle.profile_table.specs.Answer.{entry, found_from, found_in}
use Rattle.profile_table.specs.Theorems.{Tells, FoundIsNamed}

-- the records of profiles begin at a place
tells-from : (table before : List ℕ) (at : ℕ) (ps : List Profile) → Ascending (shape_in table) before ps → drop at table ≡ records_bytes ps
    → (name : List ℕ) → Tells table (profile_named name ps) (Ok (found_from at name ps))
unfolding profile_named found_from records_bytes
tells-from table before at [] asc there name = refl
tells-from table before at (p ∷ ps) (w, (o, asc)) there name =
    let here : p ≡ profile_in table at =
    sym (ap (profile_at (shape_in table)) there ∙ (fronts (shape_in table) p (records_bytes ps) w (short (version_of table))).says) in
    let after : drop (at + length (record_bytes p)) table ≡ records_bytes ps =
    sym (drop-drop (length (record_bytes p)) at table) ∙ ap (drop (length (record_bytes p))) there ∙ drop-append_seam (record_bytes p) (records_bytes ps) in
    choice₂ (λ l f. Tells table l (Ok f)) (same name p.name)
    (λ _. (ap one_profile here, ap (entry at) here))
    (λ _. tells-from table p.name (at + length (record_bytes p)) ps asc after name)

pub found-is-named : FoundIsNamed
unfolding found_in
found-is-named table ps bytes e name =
    let back = tables-written-back table ps bytes e in
    rw e (tells-from table [] 1 ps back.ascending (sym (ap (drop 1) back.bytes)) name)
