-- `show_event::put_event` meets its contract: what the writer leaves is there from the place on. Assumes nothing.
use Rattle.std.specs.Prelude.{Ok, Err}
use native.Mathlib.Omega.{arith}
use Rattle.telnet.specs.Event.{event}
use Rattle.show_event.proofs.Placing.{after-the-end, put_back, wrote-within}
use Rattle.show_event.proofs.put_event.Goals as goal

pub returns-then-n-at : goal.returns-then-n-at
returns-then-n-at c =
    let a = c.args in
    after-the-end (event a.kind a.payload.now) a.line.now a.at (omega arith)

pub overflow_add-result : goal.overflow_add-result
overflow_add-result c =
    let a = c.args in
    omega (
      arith,
      c.if-n-at.false,
      wrote-within (event a.kind a.payload.now) a.line.now c.write.new.out a.at _ (Ok c.in-Ok.k) c.write.ensures c.in-Ok.is,
    )

pub returns-in-Ok : goal.returns-in-Ok
returns-in-Ok c =
    let a = c.args in
    put_back (event a.kind a.payload.now) a.line.now c.write.new.out a.at _ (Ok c.in-Ok.k)
    c.if-n-at.false c.write.ensures c.in-Ok.is

pub returns-in-Err : goal.returns-in-Err
returns-in-Err c =
    let a = c.args in
    put_back (event a.kind a.payload.now) a.line.now c.write.new.out a.at _ (Err c.in-Err.field-0)
    c.if-n-at.false c.write.ensures c.in-Err.is
