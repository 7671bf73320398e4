-- `profile_record::next_record` meets its contract: 31 before 32, and 32 by the count before that by the order. Assumes
-- nothing.
use mathlib.Core.Path.{◌≡◌, sym, ap, ◌∙◌}
use mathlib.Core.Bool.{true}
use Prim.Native.Nat.{◌+◌, ◌-◌}
use native.Mathlib.Omega.{arith}
use borrow.Author.Tests.{le-leb, lt-leb}
use lib.ListN.{take, drop}
use Rattle.names.specs.Order.{precedes}
use Rattle.profile.specs.Profile.{shape_of}
use Rattle.profile.specs.Table.{name_at, is_record, profile_count}
use Rattle.profile.proofs.Sizes.{reaches}
use Rattle.profile_record.specs.Step.{step_of}
use Rattle.profile_record.proofs.Records.{name-lent}
use Rattle.profile_record.proofs.next_record.Goals.{After-byte_at-n}
use Rattle.profile_record.proofs.next_record.Goals as goal

good : (c : After-byte_at-n) → is_record (shape_of c.args.version) c.args.bytes.now ≡ true
good c =
    sym c.is_record.ensures ∙ c.if-not-is_record.false

name-read : (c : After-byte_at-n) → take (4 + c.byte_at-n.result - 4) (drop 4 c.args.bytes.now) ≡ name_at c.args.bytes.now
name-read c =
    name-lent c.args.bytes.now c.byte_at-n.result c.byte_at-n.ensures

pub returns-then-not-is_record : goal.returns-then-not-is_record
unfolding step_of
returns-then-not-is_record c =
    let bad = sym c.is_record.ensures ∙ c.if-not-is_record.true in
    rw bad

pub returns-then-count-ge-PROFILE_COUNT : goal.returns-then-count-ge-PROFILE_COUNT
unfolding step_of
returns-then-count-ge-PROFILE_COUNT c =
    let good = sym c.is_record.ensures ∙ c.if-not-is_record.false in
    rw (good, le-leb profile_count c.args.count (omega arith))

pub slice_bounds-precedes-end : goal.slice_bounds-precedes-end
slice_bounds-precedes-end c = omega (arith, reaches _ _ (good (goal.at.slice_bounds-precedes-end c).After-byte_at-n))

pub returns-then-not-precedes : goal.returns-then-not-precedes
unfolding step_of
returns-then-not-precedes c =
    let a = c.args in
    let wrong = sym (c.precedes.ensures ∙ ap (precedes a.before.now) (name-read (goal.at.returns-then-not-precedes c).After-byte_at-n)) ∙ c.if-not-precedes.true in
    rw (good (goal.at.returns-then-not-precedes c).After-byte_at-n, lt-leb profile_count a.count (omega arith), wrong)

pub returns : goal.returns
unfolding step_of
returns c =
    let a = c.args in
    let right = sym (c.precedes.ensures ∙ ap (precedes a.before.now) (name-read (goal.at.returns c).After-byte_at-n)) ∙ c.if-not-precedes.false in
    rw (good (goal.at.returns c).After-byte_at-n, lt-leb profile_count a.count (omega arith), right, c.byte_at-n.ensures)
