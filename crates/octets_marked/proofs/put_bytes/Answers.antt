-- `octets_marked::put_bytes` meets its contract. The loop's invariant: what is still to be put, after what was put, is
-- what was to be put. Assumes nothing.
use mathlib.Core.Path.{◌≡◌, ◌∙◌}
use mathlib.Core.List.{[], ◌∷◌}
use native.Mathlib.Omega.{arith}
use lib.ListN.{get_or}
use Rattle.octets_marked.specs.Marked.{marked}
use Rattle.octets_marked.proofs.Marked.{marked-at, length-marked-at}
use Rattle.octets_marked.proofs.Turn.{piece-put, then-further}
use Rattle.octets_marked.proofs.put_bytes.Goals as goal

pub put_byte-k-requires : goal.put_byte-k-requires
put_byte-k-requires c =
    let l = c.loop-i in
    let a = c.args in
    let n = length-marked-at a.mark a.low a.high a.bytes.now l.i (omega arith) in
    omega (arith, n, c.requires.2, l.invariant.0, l.invariant.1.place)

pub loop-i-preserved : goal.loop-i-preserved
loop-i-preserved c =
    let p = c.put_byte-k in
    let l = c.loop-i in
    let a = c.args in
    let s = a.bytes.now in
    let one = marked a.mark a.low a.high (get_or s l.i 0 ∷ []) in
    let piece = marked-at a.mark a.low a.high s l.i (omega arith) in
    let put = piece-put a.mark a.low a.high s l.i 1 one piece l.out l.k (omega (arith, c.requires.2, l.invariant.0, l.invariant.1.place)) p.ensures in
    (p.auto.out ∙ l.invariant.0, then-further l.invariant.1 put)

pub returns : goal.returns
returns c =
    let l = c.loop-i in
    let a = c.args in
    let e : l.i ≡ a.end = omega arith in
    rw e at l.invariant.1
