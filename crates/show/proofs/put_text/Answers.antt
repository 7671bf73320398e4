-- `show::put_text` meets its contract: the answer of `octets::put` says which of the two it did. Assumes nothing.
use native.Mathlib.Omega.{arith}
use Rattle.show.proofs.Placing.{had-room, placed-put, placed-none}
use Rattle.show.proofs.put_text.Goals as goal

pub overflow_add-result : goal.overflow_add-result
overflow_add-result c =
    omega (arith, had-room c.args.words.now c.args.out.now c.args.at c.put.ensures c.if-put.true, c.well_formed.1.0)

pub returns-then-put : goal.returns-then-put
returns-then-put c =
    let s = c.args in
    placed-put s.words.now s.out.now s.at c.put.ensures c.if-put.true

pub returns : goal.returns
returns c =
    let s = c.args in
    placed-none s.words.now s.out.now s.at c.put.ensures c.if-put.false
