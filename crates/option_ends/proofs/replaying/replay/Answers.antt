-- `option_ends::replaying::replay` meets its contract: at each turn the ends and the totals are those of the bytes
-- passed. Assumes nothing.
use mathlib.Core.Path.{refl, ap, ◌∙◌}
use native.Mathlib.Omega.{arith}
use lib.ListN.{take, get_or}
use lib.Seq.{take_all, length-take-le}
use Rattle.option_rules.specs.Table.{rules_of}
use Rattle.option_ends.specs.Ends.{after, count_where}
use Rattle.option_ends.specs.Replay.{Standing, call_of, calls_of}
use Rattle.option_ends.specs.Internal.Turn.{onward, clipped}
use Rattle.option_ends.proofs.Whole.{one_more, totals-fit}
use Rattle.option_ends.proofs.replaying.replay.Goals as goal

pub loop-byte-init : goal.loop-byte-init
unfolding calls_of after count_where
loop-byte-init c = refl

pub next-past-requires : goal.next-past-requires
next-past-requires c =
    let a = c.args in
    let l = c.loop-byte in
    let f = totals-fit (rules_of a.option) (take l.byte-index a.calls.now) in
    let s = ap (λ (s : Standing). s.sent) l.invariant in
    let g = ap (λ (s : Standing). s.granted) l.invariant in
    omega (arith, f, s, g, length-take-le l.byte-index a.calls.now (omega arith), c.well_formed)

pub loop-byte-preserved : goal.loop-byte-preserved
loop-byte-preserved c =
    let a = c.args in
    let l = c.loop-byte in
    let r = rules_of a.option in
    c.next-past.ensures
    ∙ ap (λ (s : Standing). clipped (onward r s (call_of (get_or a.calls.now l.byte-index 0)))) l.invariant
    ∙ one_more a.option a.calls.now l.byte-index c.loop-byte-test.true

pub returns : goal.returns
returns c =
    let l = c.loop-byte in
    l.invariant ∙ rw (take_all l.byte-index c.args.calls.now (omega arith))
