-- `env_text::ends_text` meets its contract. Assumes nothing.
use mathlib.Core.Path.{sym}
use native.Mathlib.Omega.{arith}
use Rattle.env_text.proofs.Scanning.{marked-end, marked-escape, marked_other}
use Rattle.env_text.proofs.ends_text.Goals as goal

pub returns-then-s-i : goal.returns-then-s-i
returns-then-s-i c = sym (marked-end _ _ c.if-s-i.true)

pub returns-then-s-i-eq-ESC : goal.returns-then-s-i-eq-ESC
returns-then-s-i-eq-ESC c =
    let a = c.args in
    sym (marked-escape a.s.now a.i (omega arith) c.if-s-i-eq-ESC.true)

pub returns : goal.returns
returns c =
    let a = c.args in
    sym (marked_other a.s.now a.i (omega arith) c.if-s-i-eq-ESC.false)
