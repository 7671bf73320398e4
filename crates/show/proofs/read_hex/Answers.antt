-- `show::read_hex` meets its contract. The loop's invariant: to put the bytes of the pairs from `i` on after those that
-- are there gives the buffer with all of them. Assumes nothing.
use mathlib.Core.Path.{◌≡◌, refl, sym, ap, ◌∙◌}
use Prim.Native.Nat.{suc, ◌+◌, ◌*◌, ◌≤◌}
use native.Mathlib.Omega.{arith}
use lib.ListN.{length, get_or, drop, length-set, length-drop}
use Rattle.octets.specs.Lent.{overwrite}
use Rattle.octets.proofs.Overwrite.{overwrite-nil, overwrite-cons}
use Rattle.octets.proofs.Promise.{front-short, front_fits}
use Rattle.show.specs.Hex.{byte_of, hex_bytes}
use Rattle.show.proofs.Digits.{length-bytes, bytes_next, bytes-none}
use Rattle.show.proofs.read_hex.Goals as goal

pub returns-then-out-n : goal.returns-then-out-n
returns-then-out-n c =
    let s = c.args in
    sym (front-short _ _ (hex_bytes s.text.now) s.out.now (omega (arith, length-bytes s.text.now)))

pub loop-i-init : goal.loop-i-init
loop-i-init c = (refl, omega arith, refl, refl)

pub loop-i-preserved : goal.loop-i-preserved
loop-i-preserved c =
    let l = c.loop-i in
    let s = c.args in
    let x = s.text.now in
    let p = 2 * l.i in
    let next = bytes_next x p (omega arith) in
    let rest = hex_bytes (drop (p + 1 + 1) x) in
    let room : l.i + suc (length rest) ≤ length l.out = rw (length-bytes, length-drop) (omega arith) in
    let twice : 2 * (l.i + 1) ≡ p + 1 + 1 = omega arith in (
      refl,
      omega arith,
      rw length-set l.invariant.2,
      rw (twice, c.byte_of.ensures, overwrite-cons l.out l.i (byte_of (get_or x p 0) (get_or x (p + 1) 0)) rest room, ← next) l.invariant.3,
    )

pub returns : goal.returns
returns c =
    let l = c.loop-i in
    let s = c.args in
    let x = s.text.now in
    let long = length-bytes x in
    let none = bytes-none x (2 * l.i) (omega arith) in
    let done : l.out ≡ overwrite s.out.now 0 (hex_bytes x) = sym (overwrite-nil l.out l.i) ∙ ap (overwrite l.out l.i) (sym none) ∙ l.invariant.3 in
    rw (← long, done) (sym (front_fits _ _ (hex_bytes x) s.out.now (omega arith)))
