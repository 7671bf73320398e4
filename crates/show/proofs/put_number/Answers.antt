-- `show::put_number` meets its contract: the answer of `octets::put_decimal` says which of the two it did. Assumes
-- nothing.
use mathlib.Core.Path.{ap, ◌∙◌}
use Prim.Native.Nat.{◌+◌}
use native.Mathlib.Omega.{arith}
use Rattle.octets.specs.Decimal.{decimal}
use Rattle.octets.specs.Lent.{outcome}
use Rattle.show.proofs.Placing.{had-room, placed-put, placed-none}
use Rattle.show.proofs.put_number.Goals as goal

pub overflow_add-result : goal.overflow_add-result
overflow_add-result c =
    omega (arith, had-room (decimal c.args.n) c.args.out.now c.args.at c.put_decimal.ensures c.if-put_decimal.true, c.well_formed.1.0)

pub returns-then-put_decimal : goal.returns-then-put_decimal
returns-then-put_decimal c =
    let s = c.args in
    let x = decimal s.n in
    ap (λ n. outcome (s.at + n) c.put_decimal.new.buffer) c.decimal_length.ensures
    ∙ placed-put x s.out.now s.at c.put_decimal.ensures c.if-put_decimal.true

pub returns : goal.returns
returns c =
    let s = c.args in
    placed-none (decimal s.n) s.out.now s.at c.put_decimal.ensures c.if-put_decimal.false
