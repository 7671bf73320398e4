-- `export_signon::reasons_numbered` meets its contract: reason by reason. Assumes nothing.
use Rattle.std.specs.Prelude.{if◌then◌else◌}
use mathlib.Core.Path.{◌≡◌, refl, sym, ap, ◌∙◌}
use Prim.Native.Nat.{ℕ, ◌/◌}
use lib.Dec.{eqb}
use Rattle.signon.specs.declared.Reason.{Reason}
use Rattle.signon.specs.declared.Reason.TheVariants.{PanelAskedFor, NoUser, BadName, NotInTheTable, Disabled, SeedVariableMissing}
use Rattle.signon.specs.declared.Reason.TheVariants.{SubstituteMissing, SeedLength, SubstituteLength, DesNotAllowed}
use Rattle.signon.specs.declared.Reason.TheVariants.{ClearPasswordMalformed, TokenDiffers, Granted}
use Rattle.signon.specs.Reason.{verdict_for}
use Rattle.export_signon.specs.Numbers.{verdict_number, reason_number}
use Rattle.export_signon.proofs.reasons_numbered.Goals as goal

tens : (r : Reason) → reason_number r / 10 ≡ verdict_number (verdict_for r)
tens PanelAskedFor = refl
tens NoUser = refl
tens BadName = refl
tens NotInTheTable = refl
tens Disabled = refl
tens SeedVariableMissing = refl
tens SubstituteMissing = refl
tens SeedLength = refl
tens SubstituteLength = refl
tens DesNotAllowed = refl
tens ClearPasswordMalformed = refl
tens TokenDiffers = refl
tens Granted = refl

-- the reason of a number
abbrev named : ℕ → Reason
named n =
    if eqb n 10 then PanelAskedFor else
    if eqb n 21 then NoUser else
    if eqb n 22 then BadName else
    if eqb n 23 then NotInTheTable else
    if eqb n 31 then Disabled else
    if eqb n 41 then SeedVariableMissing else
    if eqb n 42 then SubstituteMissing else
    if eqb n 43 then SeedLength else
    if eqb n 45 then SubstituteLength else
    if eqb n 46 then DesNotAllowed else
    if eqb n 48 then ClearPasswordMalformed else
    if eqb n 49 then TokenDiffers else
    Granted

back : (r : Reason) → named (reason_number r) ≡ r
back PanelAskedFor = refl
back NoUser = refl
back BadName = refl
back NotInTheTable = refl
back Disabled = refl
back SeedVariableMissing = refl
back SubstituteMissing = refl
back SeedLength = refl
back SubstituteLength = refl
back DesNotAllowed = refl
back ClearPasswordMalformed = refl
back TokenDiffers = refl
back Granted = refl

pub returns : goal.returns
returns c = record { tens = tens; one = λ r q e. sym (back r) ∙ ap named e ∙ back q }
