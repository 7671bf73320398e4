-- `env_writer::any_nameless` meets its contract: where the loop is, the records from there on decide. Assumes nothing.
use mathlib.Core.Path.{◌≡◌, refl, sym, ap, ◌∙◌}
use mathlib.Core.Bool.{true, ◌||◌}
use mathlib.Core.List.{List}
use native.Mathlib.Omega.{arith}
use Prim.Native.Nat.{ℕ, ◌+◌, ◌*◌}
use lib.Dec.{eqb}
use lib.ListN.{drop}
use borrow.Author.Tests.{eq-eqb, ne_eqb}
use Rattle.env.specs.Write.{nameless}
use Rattle.env.specs.Numbers.{record_width, variables_held, placed}
use Rattle.env_writer.proofs.WritingRecords.{good-from, nameless-from, nameless-none}
use Rattle.env_writer.proofs.any_nameless.Goals.{After-record_at-v}
use Rattle.env_writer.proofs.any_nameless.Goals as goal

pub loop-i-init : goal.loop-i-init
loop-i-init c = λ bytes e. (e, refl)

-- the records from the loop's place on, by the name of the one there
tested : (c : After-record_at-v)
    → let numbers = c.args.numbers.now in
    let i = c.loop-i.i in
    (bytes : List ℕ) → placed bytes numbers ≡ true
    → nameless (variables_held bytes numbers) ≡ (eqb c.record_at-v.result.name_length 0 || nameless (variables_held bytes (drop (record_width * (i + 1)) numbers)))
tested c =
    let numbers = c.args.numbers.now in
    let l = c.loop-i in
    λ bytes e.
    let rest = nameless (variables_held bytes (drop (record_width * (l.i + 1)) numbers)) in
    (l.invariant bytes e).1 ∙ nameless-from bytes numbers l.i (omega arith) (l.invariant bytes e).0
    ∙ ap (λ r. eqb r.name_length 0 || rest) (sym c.record_at-v.ensures)

pub returns-then-v-eq0 : goal.returns-then-v-eq0
returns-then-v-eq0 c =
    λ bytes e. sym (rw (eq-eqb c.record_at-v.result.name_length 0 c.if-v-eq0.true) at (tested (goal.at.returns-then-v-eq0 c).After-record_at-v bytes e))

pub loop-i-preserved : goal.loop-i-preserved
loop-i-preserved c =
    let numbers = c.args.numbers.now in
    let l = c.loop-i in
    λ bytes e. (
      (good-from bytes numbers l.i (omega arith) (l.invariant bytes e).0).1,
      rw (ne_eqb c.record_at-v.result.name_length 0 c.if-v-eq0.false) at (tested (goal.at.loop-i-preserved c).After-record_at-v bytes e),
    )

pub returns : goal.returns
returns c =
    let numbers = c.args.numbers.now in
    let l = c.loop-i in
    λ bytes e. sym ((l.invariant bytes e).1 ∙ nameless-none bytes numbers l.i (omega arith))
