-- Undefined variables are as absent ones: the theorem `ReasonTheorems.UndefinedIsAbsent`. Assumes nothing.
use mathlib.Core.Path.{◌≡◌, refl}
use mathlib.Core.List.{List}
use Prim.Native.Nat.{ℕ}
use Rattle.env.specs.Variable.{Variable, VAR, USERVAR, defined_ones}
use Rattle.env.specs.Read.{says}
use Rattle.env.proofs.Undefined.{lookup-passes-over, read-defined}
use Rattle.profile.specs.Profile.{Profile}
use Rattle.profile.specs.Table.{TableReading, profiles, table_refused, table_of}
use Rattle.signon.specs.Attempt.{USER, IBMRSEED, IBMSUBSPW, attempt_by, attempt}
use Rattle.signon.specs.Verdict.{answer_by, answer_of}
use Rattle.signon.specs.Reason.{explain_by, explain_of}
use Rattle.signon.specs.ReasonTheorems.{UndefinedIsAbsent}

-- the same attempt
same_attempt : (seed : List ℕ) (ps : List Profile) (vs : List Variable) → attempt seed ps vs ≡ attempt seed ps (defined_ones vs)
unfolding attempt attempt_by
same_attempt seed ps vs =
    rw (lookup-passes-over USERVAR IBMRSEED vs, lookup-passes-over USERVAR IBMSUBSPW vs, lookup-passes-over VAR USER vs)

module _ (seed : List ℕ) (first : ℕ) (vs : List Variable) where
  same_answer : (t : TableReading) → answer_by seed t (says first vs) ≡ answer_by seed t (says first (defined_ones vs))
  unfolding answer_by
  same_answer (table_refused n) = refl
  same_answer (profiles ps) = rw (same_attempt seed ps vs)

  same-reason : (t : TableReading) → explain_by seed t (says first vs) ≡ explain_by seed t (says first (defined_ones vs))
  unfolding explain_by
  same-reason (table_refused n) = refl
  same-reason (profiles ps) = rw (same_attempt seed ps vs)

pub undefined-is-absent : UndefinedIsAbsent
unfolding answer_of explain_of
undefined-is-absent payload first vs e seed table =
    let read = read-defined payload first vs e in
    (rw (e, read, same_answer seed first vs (table_of table)), rw (e, read, same-reason seed first vs (table_of table)))
