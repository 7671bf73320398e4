-- `telnet_records::copy_event` meets its contract: a run that was copied is the event's data, and where none was the
-- buffer is as it was. Assumes nothing.
use native.Mathlib.Omega.{arith}
use Rattle.telnet_data.proofs.Copies.{run_none}
use Rattle.telnet_records.proofs.Gathering.{run-copied, none-copied, passed-copied}
use Rattle.telnet_records.proofs.copy_event.Goals as goal

pub returns-then-count-gt0 : goal.returns-then-count-gt0
returns-then-count-gt0 c =
    run-copied c.args.s.now c.args.at c.args.out.now c.args.to c.requires c.copy_run-run.ensures (omega arith)

pub overflow_add-result : goal.overflow_add-result
overflow_add-result c =
    omega (arith, (run-copied c.args.s.now c.args.at c.args.out.now c.args.to c.requires c.copy_run-run.ensures (omega arith)).whole, c.requires.room)

pub pass_event-requires : goal.pass_event-requires
pass_event-requires c =
    none-copied c.args.s.now c.args.at c.args.out.now c.args.to c.requires c.copy_run-run.ensures (omega arith)

pub returns : goal.returns
returns c =
    let a = c.args in
    let kept = run_none a.s.now a.at a.out.now a.to c.copy_run-run.ensures (omega arith) in
    rw kept (passed-copied a.s.now a.at a.out.now a.to c.pass_event.result c.pass_event.ensures)
