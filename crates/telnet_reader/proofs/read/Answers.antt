-- `telnet_reader::read` meets its contract: a run that was copied is what is read there, and where none was the buffer
-- is as it was. Assumes nothing.
use mathlib.Core.Path.{sym, ap, ap₂, ◌∙◌}
use Prim.Native.Nat.{◌-◌, ◌≤◌}
use native.Mathlib.Omega.{arith}
use lib.ListN.{length, drop, length-drop}
use borrow.Author.Tests.{leb-true}
use Rattle.octets.specs.Lent.{outcome}
use Rattle.telnet.specs.declared.Kind.TheVariants.{Data}
use Rattle.telnet_data.specs.Promise.{count}
use Rattle.telnet_data.proofs.Stretches.{count-within}
use Rattle.telnet_data.proofs.Copies.{run_none, run-whole}
use Rattle.telnet_reader.specs.Promise.{event_found, read_at}
use Rattle.telnet_reader.proofs.Carried.{read-run}
use Rattle.telnet_reader.proofs.read.Goals as goal

pub returns-then-count-gt0 : goal.returns-then-count-gt0
returns-then-count-gt0 c =
    let a = c.args in
    let bs = drop a.at a.s.now in
    let holds = leb-true (length a.s.now - a.at) (length a.out.now)
    (sym c.holds_rest.ensures ∙ c.if-not-holds_rest.false) in
    let room : count bs ≤ length a.out.now = omega (arith, holds, count-within bs, length-drop a.at a.s.now) in
    let run = run-whole a.s.now a.at a.out.now 0 c.copy_run-run.ensures (omega arith) in
    ap₂ outcome (ap₂ (event_found Data) run.told.counted run.told.ended) run.lent
    ∙ sym (read-run a.s.now a.at a.out.now (omega (arith, run.told.counted)) room)

pub returns : goal.returns
returns c =
    let a = c.args in
    let kept = run_none a.s.now a.at a.out.now 0 c.copy_run-run.ensures (omega arith) in
    c.deliver-2.ensures ∙ ap (read_at a.s.now a.at) kept
