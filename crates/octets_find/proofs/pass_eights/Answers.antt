-- `octets_find::pass_eights` meets its contract. The loop's invariant: what comes before the byte from here on, after
-- what is passed, ends where it does from the start. The measure is what is left of the text. Assumes nothing.
use mathlib.Core.Path.{refl, sym, ◌∙◌}
use native.Mathlib.Omega.{arith}
use borrow.Author.Tests.{ltb-false}
use lib.ListN.{length, drop}
use Rattle.octets.specs.Find.{up_to}
use Rattle.octets_find.proofs.Before.{passed}
use Rattle.octets_find.proofs.pass_eights.Goals as goal

pub returns-then-text-lt8 : goal.returns-then-text-lt8
returns-then-text-lt8 c = refl

pub loop-place-init : goal.loop-place-init
loop-place-init c = refl

pub returns-then-is_among : goal.returns-then-is_among
returns-then-is_among c = omega arith

pub loop-place-preserved : goal.loop-place-preserved
loop-place-preserved c =
    let l = c.loop-place in
    let s = c.args in
    let n = length (up_to s.b (drop l.place s.text.now)) in
    omega (arith, passed s.b s.text.now l.place 8 (ltb-false n 8 (sym c.is_among.ensures ∙ c.if-is_among.false)))

pub returns : goal.returns
returns c = omega arith
