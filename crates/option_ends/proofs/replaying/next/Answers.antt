-- `option_ends::replaying::next` meets its contract: a turn's counts are added to what there was. Assumes nothing.
use mathlib.Core.Path.{sym, ap, ◌∙◌}
use Prim.Native.Nat.{◌-◌}
use native.Mathlib.Omega.{arith}
use Rattle.option_rules.specs.Table.{rules_of}
use Rattle.option_ends.specs.Replay.{seen}
use Rattle.option_ends.specs.Internal.Turn.{clipped}
use Rattle.option_ends.proofs.Turns.{room, add, add-swapped, near_call, far_call, no_call, few}
use Rattle.option_ends.proofs.replaying.next.Goals as goal

pub added-requires : goal.added-requires
added-requires c =
    let a = c.args in
    let t = c.act-turn in
    let f = few a.option a.past.near a.past.far a.byte (seen t.result) t.ensures in
    omega (arith, f, c.requires)

pub returns-then-byte-lt4 : goal.returns-then-byte-lt4
returns-then-byte-lt4 c =
    let a = c.args in
    let s = seen a.past in
    c.added.ensures
    ∙ ap (add s) c.act-turn.ensures
    ∙ ap clipped (sym (near_call (rules_of a.option) s a.byte c.if-byte-lt4.true))

pub added-requires-then-byte-lt8 : goal.added-requires-then-byte-lt8
added-requires-then-byte-lt8 c =
    let a = c.args in
    let t = c.act-turn-then-byte-lt8 in
    let f = few a.option a.past.far a.past.near (a.byte - 4) (seen t.result) t.ensures in
    omega (arith, f, c.requires)

pub returns-then-byte-lt8 : goal.returns-then-byte-lt8
returns-then-byte-lt8 c =
    let a = c.args in
    let s = seen a.past in
    let from-four = c.if-byte-lt4.false in
    let below-eight = c.if-byte-lt8.true in
    c.added-then-byte-lt8.ensures
    ∙ ap (add-swapped s) c.act-turn-then-byte-lt8.ensures
    ∙ ap clipped (sym (far_call (rules_of a.option) s a.byte from-four below-eight))

pub returns : goal.returns
returns c =
    let a = c.args in
    rw (no_call (rules_of a.option) (seen a.past) a.byte c.if-byte-lt8.false, room a.past.near.line, room a.past.far.line)
