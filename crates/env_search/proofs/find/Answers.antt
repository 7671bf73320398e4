-- `env_search::find` meets its contract. The loop's invariant: the place that the records from i on give is the one
-- that all give. Assumes nothing.
use mathlib.Core.Path.{◌≡◌, sym, ◌∙◌}
use mathlib.Core.Bool.{Bool, true, false}
use native.Mathlib.Omega.{arith}
use Rattle.env_search.specs.Places.{is_defined_of}
use Rattle.env_records.specs.Records.{record_at}
use Rattle.env_search.proofs.SearchSteps.{place-step, place_end, tested}
use Rattle.env_search.proofs.find.Goals.{After-is_defined_of}
use Rattle.env_search.proofs.find.Goals as goal

-- the test of record i, by what it answered
test : (c : After-is_defined_of) → let l = c.loop-i in
    let s = c.args in
    (t : Bool) → c.is_defined_of.result ≡ t → is_defined_of s.kind s.name.now s.bytes.now (record_at s.numbers.now l.i) ≡ t
test c t e =
    let l = c.loop-i in
    let s = c.args in
    let read = c.record_at-v in
    tested (is_defined_of s.kind s.name.now s.bytes.now) s.numbers.now l.i read.result c.is_defined_of.result t
    read.ensures c.is_defined_of.ensures e

pub returns-then-is_defined_of : goal.returns-then-is_defined_of
returns-then-is_defined_of c =
    let l = c.loop-i in
    let s = c.args in
    let step = place-step s.kind s.name.now s.bytes.now s.numbers.now l.i (omega arith) in
    sym (sym l.invariant ∙ rw (step, test (goal.at.returns-then-is_defined_of c).After-is_defined_of true c.if-is_defined_of.true, ← c.record_at-v.ensures))

pub loop-i-preserved : goal.loop-i-preserved
loop-i-preserved c =
    let l = c.loop-i in
    let s = c.args in
    rw (place-step s.kind s.name.now s.bytes.now s.numbers.now l.i (omega arith), test (goal.at.loop-i-preserved c).After-is_defined_of false c.if-is_defined_of.false) at l.invariant

pub returns : goal.returns
returns c =
    let l = c.loop-i in
    let s = c.args in
    sym (place_end s.kind s.name.now s.bytes.now s.numbers.now l.i (omega arith)) ∙ l.invariant
