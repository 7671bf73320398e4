-- `env_variables::read_variables` meets its contract: a fault is told, and the variables that were found are delivered.
-- Assumes nothing.
use mathlib.Core.Path.{◌∙◌}
use native.Mathlib.Nat.{sub-zero}
use native.Mathlib.Omega.{arith}
use borrow.Author.Rules.{rules}
use Rattle.std.proofs.lemmas.Result.{err_from_is_err_and}
use Rattle.env_variables.proofs.Reading.{name-fault, name-variables, long_after, fault-after, variables-after}
use Rattle.env_variables.proofs.read_variables.Goals as goal

pub returns-then-rest-ge-PAYLOAD_LIMIT : goal.returns-then-rest-ge-PAYLOAD_LIMIT
returns-then-rest-ge-PAYLOAD_LIMIT c =
    let a = c.args in
    long_after a.first a.rest.now a.bytes.now a.numbers.now (omega arith)

pub returns-in_err-held : goal.returns-in_err-held
returns-in_err-held c =
    let a = c.args in
    let p = err_from_is_err_and c.from_residual.result c.from_residual.ensures.1 in
    let found = name-fault _ _ 0 0 _ _ c.in_err-held.ensures in
    rw (p.1, p.2) (fault-after a.first a.rest.now a.bytes.now a.numbers.now _ (omega (arith, c.if-rest-ge-PAYLOAD_LIMIT.false)) found)

pub slice_bounds-deliver-end : goal.slice_bounds-deliver-end
slice_bounds-deliver-end c =
    let all = name-variables _ _ _ _ c.in_ok-held.ensures in
    omega (arith, all.1)

pub overflow_mul-held : goal.overflow_mul-held
overflow_mul-held c =
    let all = name-variables _ _ _ _ c.in_ok-held.ensures in
    let few = all.0 in search rules

pub slice_bounds-deliver-end-2 : goal.slice_bounds-deliver-end-2
slice_bounds-deliver-end-2 c =
    let all = name-variables _ _ _ _ c.in_ok-held.ensures in
    omega (arith, all.2)

pub returns : goal.returns
returns c =
    let a = c.args in
    let all = name-variables _ _ _ _ c.in_ok-held.ensures in
    let whole = variables-after a.first a.rest.now a.bytes.now a.numbers.now all.3.all (omega (arith, c.if-rest-ge-PAYLOAD_LIMIT.false)) all.3.those in
    c.deliver.ensures ∙ rw (sub-zero, sub-zero, all.3.texts, all.3.records) whole
