-- The numbers of the verdicts, of the reasons and of what is answered with them, and the verdict that a number names.
use Rattle.std.specs.Prelude.{◌≡◌, ◌↔◌, ℕ, ◌/◌, eqb, if◌then◌else◌, Result, Ok, Err}
use Rattle.refusal.specs.declared.Refusal.{Refusal}
use Rattle.refusal.specs.Refusal.{number}
use Rattle.signon.specs.declared.Verdict.{Verdict}
use Rattle.signon.specs.declared.Verdict.TheVariants.{Panel, NotKnown, Disabled, Failed, Grant}
use Rattle.signon.specs.declared.Reason.{Reason}
use Rattle.signon.specs.declared.Reason.TheVariants.{PanelAskedFor, NoUser, BadName, NotInTheTable, Disabled as NotEnabled, SeedVariableMissing}
use Rattle.signon.specs.declared.Reason.TheVariants.{SubstituteMissing, SeedLength, SubstituteLength, DesNotAllowed}
use Rattle.signon.specs.declared.Reason.TheVariants.{ClearPasswordMalformed, TokenDiffers, Granted}
use Rattle.signon.specs.Reason.{verdict_for}
use Rattle.export_signon.specs.declared.TvVerdict.{TvVerdict}
use Rattle.export_signon.specs.declared.TvExplained.{TvExplained}

-- 0002, 0003 and 0004 by their digits, PANEL before them and GRANT after them
abbrev pub verdict_number : Verdict → ℕ
verdict_number Panel = 1
verdict_number NotKnown = 2
verdict_number Disabled = 3
verdict_number Failed = 4
verdict_number Grant = 5

-- the verdict that a number names; any other number is read as 0004
unfoldable pub verdict_named : ℕ → Verdict
verdict_named n =
    if eqb n 1 then Panel else
    if eqb n 2 then NotKnown else
    if eqb n 3 then Disabled else
    if eqb n 5 then Grant else
    Failed

abbrev pub answer_numbers : Result Verdict Refusal → TvVerdict
answer_numbers (Ok v) = record { refusal = 0; verdict = verdict_number v }
answer_numbers (Err e) = record { refusal = number e; verdict = 0 }

-- Which verdict a number names: GRANT is 5 and no other number, and a number that is none of 1, 2, 3 and 5 is 0004; and
-- the number of a verdict names it.
pub record VerdictNamed : Type 0 where
  pub back : (v : Verdict) → verdict_named (verdict_number v) ≡ v
  pub panel : (n : ℕ) → (verdict_named n ≡ Panel) ↔ (n ≡ 1)
  pub not_known : (n : ℕ) → (verdict_named n ≡ NotKnown) ↔ (n ≡ 2)
  pub disabled : (n : ℕ) → (verdict_named n ≡ Disabled) ↔ (n ≡ 3)
  pub grant : (n : ℕ) → (verdict_named n ≡ Grant) ↔ (n ≡ 5)
  pub failed : (n : ℕ) → (n ≡ 1 → ⊥) → (n ≡ 2 → ⊥) → (n ≡ 3 → ⊥) → (n ≡ 5 → ⊥) → verdict_named n ≡ Failed

-- reasons by their verdict in the tens, with room for later ones between them
abbrev pub reason_number : Reason → ℕ
reason_number PanelAskedFor = 10
reason_number NoUser = 21
reason_number BadName = 22
reason_number NotInTheTable = 23
reason_number NotEnabled = 31
reason_number SeedVariableMissing = 41
reason_number SubstituteMissing = 42
reason_number SeedLength = 43
reason_number SubstituteLength = 45
reason_number DesNotAllowed = 46
reason_number ClearPasswordMalformed = 48
reason_number TokenDiffers = 49
reason_number Granted = 50

abbrev pub explained_numbers : Result Reason Refusal → TvExplained
explained_numbers (Ok r) = record { refusal = 0; reason = reason_number r }
explained_numbers (Err e) = record { refusal = number e; reason = 0 }

-- The tens of a reason's number are the number of its verdict; and no two reasons have the same.
pub record ReasonNumbered : Type 0 where
  pub tens : (r : Reason) → reason_number r / 10 ≡ verdict_number (verdict_for r)
  pub one : (r q : Reason) → reason_number r ≡ reason_number q → r ≡ q
