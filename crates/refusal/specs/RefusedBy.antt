-- The number that an answer refuses by, for answers of every kind.
use Rattle.std.specs.Prelude.{ℕ, Bool, true, false, eqb, if◌then◌else◌, Option, None, Some, Result, Ok, Err}
use Rattle.refusal.specs.declared.Refusal.{Refusal}
use Rattle.refusal.specs.Refusal.{number}

-- no refusal, or the number of one
pub data RefusalNumber : Type 0 where
  no_refusal : RefusalNumber
  refused_by : ℕ → RefusalNumber

abbrev pub is_refused : RefusalNumber → Bool
is_refused no_refusal = false
is_refused (refused_by n) = true

-- a number that is 0 where nothing is refused
abbrev pub by_number : ℕ → RefusalNumber
by_number n = if eqb n 0 then no_refusal else refused_by n

-- the number that an answer refuses by
abbrev pub refusal_number : {A : Type 0} → Result A Refusal → RefusalNumber
refusal_number (Ok a) = no_refusal
refusal_number (Err e) = refused_by (number e)

-- the number of a refusal that may be given with a state, or 0
abbrev pub number_or_0 : Option Refusal → ℕ
number_or_0 None = 0
number_or_0 (Some e) = number e
