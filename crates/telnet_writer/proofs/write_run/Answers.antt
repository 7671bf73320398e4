-- `telnet_writer::write_run` meets its contract. Assumes nothing.
use Rattle.telnet.specs.Event.{run}
use Rattle.telnet_writer.specs.Promise.{unwritable}
use Rattle.telnet_writer.proofs.Writing.{run-empty, not_written, run-not-fitting, run-fitting}
use Rattle.telnet_writer.proofs.write_run.Goals as goal

pub returns-then-bytes-eq0 : goal.returns-then-bytes-eq0
unfolding unwritable
returns-then-bytes-eq0 c =
    let a = c.args in
    not_written (run a.bytes.now) a.out.now (run-empty a.bytes.now c.if-bytes-eq0.true)

pub returns-then-n-eq0 : goal.returns-then-n-eq0
returns-then-n-eq0 c =
    let a = c.args in
    run-not-fitting a.bytes.now a.out.now c.if-bytes-eq0.false c.put_marked-n.result _ c.put_marked-n.ensures c.if-n-eq0.true

pub returns : goal.returns
returns c =
    let a = c.args in
    run-fitting a.bytes.now a.out.now c.if-bytes-eq0.false c.put_marked-n.result _ c.put_marked-n.ensures c.if-n-eq0.false
