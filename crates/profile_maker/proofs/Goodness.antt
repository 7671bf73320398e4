-- Made records are good, and tables of them are accepted: the theorems `Theorems.MadeRecordsAreGood` and
-- `Theorems.MadeTablesRead`. Assumes nothing.
use Rattle.std.specs.Prelude.{Result, Ok}
use mathlib.Core.Path.{◌≡◌}
use mathlib.Core.Bool.{not}
use mathlib.Core.List.{List, [], ◌∷◌, map}
use Prim.Native.Nat.{ℕ}
use native.Mathlib.Omega.{arith}
use borrow.Author.Tests.{not-false}
use denote.Floats.{is_true}
use lib.ListN.{take, length-map}
use Rattle.octets.specs.Lent.{Outcome}
use Rattle.octets.proofs.Choice.{choice}
use Rattle.refusal.specs.declared.Refusal.{Refusal}
use Rattle.refusal.proofs.Writing.{not-wrote, wrote-front}
use Rattle.names.specs.Name.{raised, is_name, profile_limit}
use Rattle.password_sha.specs.Sha.{is_password}
use Rattle.profile.specs.Profile.{shape_of, sum_of, record_bytes}
use Rattle.profile.specs.Table.{table_version}
use Rattle.profile.specs.Theorems.{Ascending}
use Rattle.profile.proofs.Tables.{tables-read-back}
use Rattle.profile_maker.specs.Made.{Making, made_profile}
use Rattle.profile_maker.specs.Promise.{make_into}
use Rattle.profile_maker.specs.Theorems.{Good, AscendingMakings, MadeRecordsAreGood, MadeTablesRead}
use Rattle.profile_maker.proofs.Formed.{formed, size}

-- what is left after an answer that n bytes were written
abbrev GoodIfWrote : Making → ℕ → Outcome (Result ℕ Refusal) → Type 0
GoodIfWrote m n o = o.answer ≡ Ok n → Good m n (take n o.lent)

pub made-records-are-good : MadeRecordsAreGood
unfolding make_into shape_of sum_of
made-records-are-good m out n =
    choice (GoodIfWrote m n) (not (is_name profile_limit m.name))
    (λ _ e. not-wrote e)
    (λ named. choice (GoodIfWrote m n) (not (is_password m.password))
    (λ _ e. not-wrote e)
    (λ _ e.
    let good = not-false (is_name profile_limit m.name) named in
    let front = wrote-front (record_bytes (made_profile m)) out n e in
    record { size = omega (arith, front.0, size m good); bytes = front.1; formed = formed m good }))

ascending : (before : List ℕ) (ms : List Making) → AscendingMakings before ms → Ascending (shape_of table_version) before (map made_profile ms)
ascending before [] asc = tt
ascending before (m ∷ ms) (good, (_, (after, asc))) =
    (formed m (is_true (is_name profile_limit m.name) good), (after, ascending (raised m.name) ms asc))

pub made-tables-read : MadeTablesRead
made-tables-read ms asc few = tables-read-back table_version tt (map made_profile ms) (ascending [] ms asc) (omega (arith, length-map ms made_profile, few))
