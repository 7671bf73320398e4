-- `octets_find::find_byte` meets its contract. The loop's invariant: what comes before the byte from here on, after
-- what is passed, ends where the answer is. Assumes nothing.
use native.Mathlib.Omega.{arith}
use Rattle.octets_find.proofs.Before.{found, not_found, passed, ended}
use Rattle.octets_find.proofs.find_byte.Goals as goal

pub loop-i-init : goal.loop-i-init
loop-i-init c = (omega arith, omega arith)

pub returns-then-text-i : goal.returns-then-text-i
returns-then-text-i c =
    let l = c.loop-i in
    let s = c.args in
    omega (arith, found s.b s.text.now l.i l.i (omega arith) (omega arith) c.if-text-i.true)

pub loop-i-preserved : goal.loop-i-preserved
loop-i-preserved c =
    let l = c.loop-i in
    let s = c.args in
    let n = not_found s.b s.text.now l.i l.i (omega arith) (omega arith) c.if-text-i.false in
    (omega (arith, passed s.b s.text.now l.i 1 (omega arith)), omega arith)

pub returns : goal.returns
returns c =
    let l = c.loop-i in
    let s = c.args in
    omega (arith, ended s.b s.text.now l.i (omega arith))
