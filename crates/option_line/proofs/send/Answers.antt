-- `option_line::send` meets its contract: what `octets::put` answers decides. Assumes nothing.
use mathlib.Core.Bool.{true, false}
use native.Mathlib.Omega.{arith}
use Rattle.option_line.proofs.Sending.{nothing-sent, command-sent, put-within}
use Rattle.option_line.proofs.send.Goals as goal

pub returns-in_default : goal.returns-in_default
returns-in_default c =
    let a = c.args in
    rw c.after.ensures (nothing-sent a.sides a.answered a.line.now a.at c.in_default.is)

pub overflow_add-at : goal.overflow_add-at
overflow_add-at c =
    let a = c.args in
    let q = c.in-Some.command in
    let put = rw (c.if-put.true, c.command_bytes.ensures) at c.put.ensures in
    omega (arith, c.ranges, put-within q.verb q.option a.line.now a.at put)

pub returns-then-put : goal.returns-then-put
returns-then-put c =
    let a = c.args in
    let put = rw (c.if-put.true, c.command_bytes.ensures) at c.put.ensures in
    rw c.after-then-put.ensures (command-sent a.sides a.answered a.line.now a.at c.in-Some.command c.in-Some.is true put)

pub returns : goal.returns
returns c =
    let a = c.args in
    let put = rw (c.if-put.false, c.command_bytes.ensures) at c.put.ensures in
    rw c.after-2.ensures (command-sent a.sides a.answered a.line.now a.at c.in-Some.command c.in-Some.is false put)
