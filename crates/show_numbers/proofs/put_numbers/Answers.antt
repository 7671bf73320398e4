-- `show_numbers::put_numbers` meets its contract. The loop's invariant: to put the numbers of the pairs from `i` on
-- after those that are there gives the list with all of them. Assumes nothing.
use mathlib.Core.Path.{◌≡◌, refl, sym, ap, ◌∙◌}
use Prim.Native.Nat.{suc, ◌+◌, ◌*◌, ◌≤◌}
use native.Mathlib.Omega.{arith}
use lib.ListN.{length, drop, length-set, length-drop}
use Rattle.octets.specs.Lent.{overwrite}
use Rattle.octets.proofs.Overwrite.{overwrite-nil, overwrite-cons}
use Rattle.octets.proofs.Promise.{front-short, front_fits}
use Rattle.show_numbers.specs.Numbers.{number_in, numbers_of}
use Rattle.show_numbers.proofs.Pairs.{length-numbers, numbers-next, numbers-none}
use Rattle.show_numbers.proofs.put_numbers.Goals as goal

pub returns-then-numbers-n : goal.returns-then-numbers-n
returns-then-numbers-n c =
    let s = c.args in
    sym (front-short _ _ (numbers_of s.bytes.now) s.numbers.now (omega (arith, length-numbers s.bytes.now)))

pub loop-i-init : goal.loop-i-init
loop-i-init c = (refl, omega arith, refl, refl)

pub loop-i-preserved : goal.loop-i-preserved
loop-i-preserved c =
    let l = c.loop-i in
    let s = c.args in
    let x = s.bytes.now in
    let p = 2 * l.i in
    let next = numbers-next x p (omega arith) in
    let rest = numbers_of (drop (p + 1 + 1) x) in
    let room : l.i + suc (length rest) ≤ length l.numbers = rw (length-numbers, length-drop) (omega arith) in
    let twice : 2 * (l.i + 1) ≡ p + 1 + 1 = omega arith in (
      refl,
      omega arith,
      rw length-set l.invariant.2,
      rw (twice, c.number_at.ensures, overwrite-cons l.numbers l.i (number_in (drop p x)) rest room, ← next) l.invariant.3,
    )

pub returns : goal.returns
returns c =
    let l = c.loop-i in
    let s = c.args in
    let x = s.bytes.now in
    let long = length-numbers x in
    let none = numbers-none x (2 * l.i) (omega arith) in
    let done : l.numbers ≡ overwrite s.numbers.now 0 (numbers_of x) =
    sym (overwrite-nil l.numbers l.i) ∙ ap (overwrite l.numbers l.i) (sym none) ∙ l.invariant.3 in
    rw (← long, done) (sym (front_fits _ _ (numbers_of x) s.numbers.now (omega arith)))
