-- `octets::put_digits` meets its contract. The loop's invariant: the digits of what is left end at `end`, and to write
-- them gives the buffer with all of them. The measure is what is left. Assumes nothing.
use mathlib.Core.Path.{◌≡◌}
use Prim.Native.Nat.{◌+◌, ◌-◌, ◌/◌, ◌%◌, ◌≤◌, ◌<◌}
use native.Mathlib.Omega.{arith}
use lib.ListN.{length, length-set}
use Rattle.octets.specs.Decimal.{digit, decimal}
use Rattle.octets.proofs.Decimal.{decimal-short, decimal-long, length-decimal-long, length-decimal-pos}
use Rattle.octets.proofs.Overwrite.{overwrite-one, overwrite-snoc}
use Rattle.octets.proofs.put_digits.Goals as goal

pub overflow_sub-end : goal.overflow_sub-end
overflow_sub-end c = omega (arith, length-decimal-pos c.loop-rest.rest)

pub bounds-buffer-end : goal.bounds-buffer-end
bounds-buffer-end c = omega (arith, length-decimal-pos c.loop-rest.rest)

pub loop-rest-preserved : goal.loop-rest-preserved
loop-rest-preserved c =
    let l = c.loop-rest in
    let s = c.args in
    let first = decimal (l.rest / 10) in
    let more : 10 ≤ l.rest = omega arith in
    let at-end : l.end - 1 ≡ s.at + length first = omega (arith, length-decimal-long l.rest more) in
    let below : s.at + length first < length l.buffer = omega (arith, length-decimal-long l.rest more) in (
      at-end,
      omega arith,
      rw length-set l.invariant.2,
      rw (at-end, c.last_digit.ensures, overwrite-snoc l.buffer s.at first (digit (l.rest % 10)) below, ← decimal-long l.rest more) l.invariant.3,
    )

pub bounds-buffer-at : goal.bounds-buffer-at
bounds-buffer-at c = omega (arith, length-decimal-pos c.loop-rest.rest)

pub returns : goal.returns
returns c =
    let l = c.loop-rest in
    let s = c.args in
    let last : l.rest < 10 = omega arith in
    let one : c.last_digit-2.result ≡ digit l.rest = omega (arith, c.last_digit-2.ensures) in
    let below : s.at < length l.buffer = omega (arith, length-decimal-pos l.rest) in
    rw (one, ← overwrite-one l.buffer s.at (digit l.rest) below, ← decimal-short l.rest last) l.invariant.3
