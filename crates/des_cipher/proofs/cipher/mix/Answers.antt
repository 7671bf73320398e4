-- `des_cipher::cipher::mix` meets its contract: the loop puts the four bits of each box in its turn after those before.
-- Assumes nothing.
use mathlib.Core.Path.{◌≡◌, sym, ◌∙◌}
use Prim.Native.Nat.{suc, ◌-◌, ◌*◌, ◌/◌, ◌^◌, ◌<◌}
use native.Mathlib.Omega.{arith}
use Rattle.des.specs.Cipher.{S, B, selected}
use Rattle.des_cipher.proofs.Mixing.{after, room, one_more, whole, looked}
use Rattle.des_cipher.proofs.Selection.{selected-lt}
use Rattle.des_cipher.proofs.cipher.mix.Goals as goal

pub loop-j-preserved : goal.loop-j-preserved
loop-j-preserved c =
    let a = c.args in
    let K = a.key.now in
    let w = c.widen-e in
    let l = c.loop-j in
    let h : l.j < 8 = omega arith in
    let s = selected (S (suc l.j)) (B a.r K (suc l.j)) in
    let small : s < 16 = selected-lt l.j (B a.r K (suc l.j)) h in
    let e : c.from.result ≡ s = c.from.ensures ∙ looked a.r K l.j (w.result / 2 ^ (28 - 4 * l.j)) c.boxed.result c.boxed.ensures (w.ensures l.j h) in (
      rw (e, after l.out s l.j l.invariant.0 h small) (room l.out s l.j l.invariant.0 small),
      rw (e, after l.out s l.j l.invariant.0 h small) (sym (one_more a.r K l.out l.j h) ∙ l.invariant.1),
    )

pub permute_p-requires : goal.permute_p-requires
permute_p-requires c =
    let l = c.loop-j in
    let e : l.j ≡ 8 = omega arith in
    rw e at l.invariant.0

pub returns : goal.returns
returns c =
    let l = c.loop-j in
    let a = c.args in
    c.permute_p.ensures ∙ whole a.r a.key.now l.out l.j (omega arith) l.invariant.1
