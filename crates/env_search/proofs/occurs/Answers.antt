-- `env_search::occurs` meets its contract. The loop's invariant: a record of the kind and name is among those from i
-- on if one is among those from `from` on. Assumes nothing.
use mathlib.Core.Path.{◌≡◌, sym, ◌∙◌}
use mathlib.Core.Bool.{Bool, true, false}
use native.Mathlib.Omega.{arith}
use Rattle.env.specs.Variable.{is}
use Rattle.env_records.specs.Records.{record_at}
use Rattle.env.specs.Numbers.{variable_of}
use Rattle.env_search.proofs.SearchSteps.{among-step, among-end, tested}
use Rattle.env_search.proofs.occurs.Goals.{After-is_of}
use Rattle.env_search.proofs.occurs.Goals as goal

-- the test of record i, by what it answered
test : (c : After-is_of) → let l = c.loop-i in
    let s = c.args in
    (t : Bool) → c.is_of.result ≡ t → is s.kind s.name.now (variable_of s.bytes.now (record_at s.numbers.now l.i)) ≡ t
test c t e =
    let l = c.loop-i in
    let s = c.args in
    let read = c.record_at in
    tested (λ r. is s.kind s.name.now (variable_of s.bytes.now r)) s.numbers.now l.i read.result c.is_of.result t
    read.ensures c.is_of.ensures e

pub returns-then-is_of : goal.returns-then-is_of
returns-then-is_of c =
    let l = c.loop-i in
    let s = c.args in
    let step = among-step s.kind s.name.now s.bytes.now s.numbers.now l.i (omega arith) in
    sym (sym l.invariant ∙ rw (step, test (goal.at.returns-then-is_of c).After-is_of true c.if-is_of.true))

pub loop-i-preserved : goal.loop-i-preserved
loop-i-preserved c =
    let l = c.loop-i in
    let s = c.args in
    rw (among-step s.kind s.name.now s.bytes.now s.numbers.now l.i (omega arith), test (goal.at.loop-i-preserved c).After-is_of false c.if-is_of.false) at l.invariant

pub returns : goal.returns
returns c =
    let l = c.loop-i in
    let s = c.args in
    sym (among-end s.kind s.name.now s.bytes.now s.numbers.now l.i (omega arith)) ∙ l.invariant
