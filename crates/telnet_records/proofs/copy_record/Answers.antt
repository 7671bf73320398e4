-- `telnet_records::copy_record` meets its contract. The invariant: what is left of the record, written where the loop
-- is, gives the whole. The measure is what is left of the line. Assumes nothing.
use mathlib.Core.Path.{◌≡◌, sym, ap, ◌∙◌}
use mathlib.Core.List.{[]}
use native.Mathlib.Omega.{arith}
use Rattle.octets.specs.Lent.{overwrite}
use Rattle.octets.proofs.Overwrite.{overwrite-nil}
use Rattle.telnet_records.specs.Internal.Gather.{data_at}
use Rattle.octets.proofs.Front.{empty}
use Rattle.telnet_records.proofs.copy_record.Goals as goal

pub copy_event-e-requires : goal.copy_event-e-requires
copy_event-e-requires c =
    let l = c.loop-n in
    record { within = l.invariant.0; some = omega arith; room = omega arith }

pub loop-n-smaller : goal.loop-n-smaller
loop-n-smaller c = omega (arith, c.copy_event-e.ensures.ahead, c.copy_event-e.ensures.within)

pub loop-n-preserved : goal.loop-n-preserved
loop-n-preserved c =
    let l = c.loop-n in
    let e = c.copy_event-e in
    (e.ensures.within, e.auto.out ∙ l.invariant.1, l.invariant.2, e.ensures.whole ∙ l.invariant.3, e.ensures.same ∙ l.invariant.4)

pub shape_of-out : goal.shape_of-out
shape_of-out c = c.loop-n.invariant.1

pub returns : goal.returns
returns c =
    let l = c.loop-n in
    let s = c.args.s.now in
    let none : data_at s l.i ≡ [] = empty (data_at s l.i) (omega arith) in
    sym (overwrite-nil l.out l.n) ∙ ap (overwrite l.out l.n) (sym none) ∙ l.invariant.4
