-- `names::raised_bytes` meets its contract. The loop's invariant: to put the raised bytes from `i` on after those
-- that are there already gives all of them over zeros. Assumes nothing.
use mathlib.Core.Path.{◌≡◌, refl, sym, ap, ◌∙◌}
use mathlib.Core.List.{[]}
use Prim.Native.Nat.{◌+◌, ◌≤◌, ◌<◌}
use native.Mathlib.Nat.{zero-add}
use native.Mathlib.Omega.{arith}
use lib.ListN.{length, get_or, drop, length-map, length-set, drop_of_length-le}
use Rattle.octets.specs.Lent.{overwrite}
use Rattle.octets.proofs.Overwrite.{overwrite-next, overwrite-nil}
use Rattle.names.specs.Name.{raised}
use Rattle.names.proofs.Text.{raised_at, over-pads}
use Rattle.names.proofs.raised_bytes.Goals as goal

pub loop-i-init : goal.loop-i-init
loop-i-init c = (omega arith, refl, refl)

pub loop-i-preserved : goal.loop-i-preserved
loop-i-preserved c =
    let l = c.loop-i in
    let x = c.args.text.now in
    let stored : c.raise.result ≡ get_or (raised x) l.i 0 = c.raise.ensures ∙ sym (raised_at x l.i) in
    let below : l.i < length (raised x) = simp length-map (omega arith) in
    let room : 0 + length (raised x) ≤ length l.bytes = simp length-map (omega arith) in
    (omega arith, rw length-set l.invariant.1, rw stored (simp zero-add at (overwrite-next l.bytes 0 (raised x) l.i 0 below room)) ∙ l.invariant.2)

pub returns : goal.returns
returns c =
    let l = c.loop-i in
    let x = c.args.text.now in
    let none : drop l.i (raised x) ≡ [] = drop_of_length-le (raised x) {i = l.i} (simp length-map (omega arith)) in
    sym (overwrite-nil l.bytes l.i) ∙ ap (overwrite l.bytes l.i) (sym none) ∙ l.invariant.2 ∙ over-pads 0 10 (raised x)
