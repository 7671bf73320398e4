-- `env_text::width_at` meets its contract: each `return` is one of the laws of the text at a place. Assumes nothing.
use native.Mathlib.Omega.{arith}
use Rattle.env_text.proofs.Scanning.{width-end, width-plain, width-mark, width-last, width-bad, width-escape}
use Rattle.env_text.proofs.width_at.Goals as goal

pub returns-then-s-i : goal.returns-then-s-i
returns-then-s-i c = width-end _ _ c.if-s-i.true

pub returns-then-s-i-gt-USERVAR : goal.returns-then-s-i-gt-USERVAR
returns-then-s-i-gt-USERVAR c =
    let a = c.args in
    width-plain a.s.now a.i (omega arith) (omega arith)

pub returns-then-s-i-ne-ESC : goal.returns-then-s-i-ne-ESC
returns-then-s-i-ne-ESC c =
    let a = c.args in
    width-mark a.s.now a.i (omega arith) (omega arith) c.if-s-i-ne-ESC.true

pub returns-then-s-i-2 : goal.returns-then-s-i-2
returns-then-s-i-2 c =
    let a = c.args in
    width-last a.s.now a.i (omega arith) (omega arith) c.if-s-i-ne-ESC.false

pub returns-then-s-i-gt-USERVAR-2 : goal.returns-then-s-i-gt-USERVAR-2
returns-then-s-i-gt-USERVAR-2 c =
    let a = c.args in
    width-bad a.s.now a.i (omega arith) c.if-s-i-ne-ESC.false (omega arith)

pub returns : goal.returns
returns c =
    let a = c.args in
    width-escape a.s.now a.i (omega arith) c.if-s-i-ne-ESC.false (omega arith)
