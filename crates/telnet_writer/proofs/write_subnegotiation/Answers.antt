-- `telnet_writer::write_subnegotiation` meets its contract. Assumes nothing.
use mathlib.Core.Path.{◌≡◌, sym, ap, ◌∙◌}
use Prim.Native.Nat.{◌+◌, ◌≤◌}
use native.Mathlib.Omega.{arith}
use lib.ListN.{length, set, length-set}
use borrow.Author.Tests.{le-leb, lt-leb}
use Rattle.telnet.specs.Event.{subnegotiation, iac, sb, se, payload_limit}
use Rattle.telnet.specs.Write.{doubled, writable}
use Rattle.octets_marked.proofs.Marked.{marked-size, put_whole}
use Rattle.telnet_writer.specs.Promise.{unwritable}
use Rattle.telnet_writer.proofs.Writing.{doubled-marked, stored-subnegotiation, subnegotiation-length}
use Rattle.telnet_writer.proofs.Writing.{not_written, not-fitting, fitting}
use Rattle.telnet_writer.proofs.write_subnegotiation.Goals.{After-slice_known-2-1}
use Rattle.telnet_writer.proofs.write_subnegotiation.Goals as goal

pub returns-then-payload-gt-PAYLOAD_LIMIT : goal.returns-then-payload-gt-PAYLOAD_LIMIT
unfolding writable unwritable
returns-then-payload-gt-PAYLOAD_LIMIT c =
    let a = c.args in
    let p = a.payload.now in
    not_written (subnegotiation a.option p) a.out.now (lt-leb (length p) payload_limit (omega arith))

pub overflow_add-end : goal.overflow_add-end
overflow_add-end c = omega (arith, marked-size iac iac iac c.args.payload.now, c.marked_length-end.ensures iac)

pub overflow_add-end-2 : goal.overflow_add-end-2
overflow_add-end-2 c = omega (arith, marked-size iac iac iac c.args.payload.now, c.marked_length-end.ensures iac)

pub returns-then-out-end : goal.returns-then-out-end
unfolding writable
returns-then-out-end c =
    let a = c.args in
    let p = a.payload.now in
    let n = subnegotiation-length a.option p in
    let size = c.marked_length-end.ensures iac ∙ sym (ap length (doubled-marked p)) in
    not-fitting (subnegotiation a.option p) a.out.now (le-leb (length p) payload_limit (omega arith)) (omega arith)

pub bounds-out-1 : goal.bounds-out-1
bounds-out-1 c = simp length-set (omega arith)

pub bounds-out-2 : goal.bounds-out-2
bounds-out-2 c = simp length-set (omega arith)

-- the payload's copy keeps the length
kept : (c : After-slice_known-2-1)
    → length c.put_marked.new.out
    ≡ length c.args.out.now
kept c =
    c.put_marked.auto.out ∙ simp length-set

pub bounds-out-end : goal.bounds-out-end
bounds-out-end c = omega (arith, kept (goal.at.bounds-out-end c).After-slice_known-2-1)

pub bounds-out-end-2 : goal.bounds-out-end-2
bounds-out-end-2 c = simp length-set (omega (arith, kept (goal.at.bounds-out-end-2 c).After-slice_known-2-1))

pub shape_of-out : goal.shape_of-out
shape_of-out c = simp length-set (kept (goal.at.shape_of-out c).After-slice_known-2-1)

pub returns : goal.returns
unfolding writable
returns c =
    let a = c.args in
    let o = a.option in
    let p = a.payload.now in
    let m = c.marked_length-end in
    let end = 3 + m.result in
    let n = subnegotiation-length o p in
    let size = m.ensures iac ∙ sym (ap length (doubled-marked p)) in
    let opened = set (set (set a.out.now 0 iac) 1 sb) 2 o in
    let room : 3 + length (doubled p) ≤ length opened = simp length-set (omega arith) in
    let put = put_whole iac iac iac p opened 3 (doubled p) (doubled-marked p) room c.put_marked.ensures in
    fitting (subnegotiation o p) a.out.now (le-leb (length p) payload_limit (omega arith)) (omega arith) (omega arith)
    (ap (λ l. set (set l end iac) (end + 1) se) put.1 ∙ stored-subnegotiation o end p a.out.now (omega arith) (omega arith))
