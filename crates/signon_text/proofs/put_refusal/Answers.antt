-- `signon_text::put_refusal` meets its contract. Assumes nothing.
use native.Mathlib.Omega.{arith}
use Rattle.octets.specs.Ascii.{ascii}
use Rattle.octets.proofs.Promise.{put_whole}
use Rattle.signon_text.proofs.Lines.{few-digits, refusal-put}
use Rattle.signon_text.proofs.put_refusal.Goals as goal

pub overflow_add-end : goal.overflow_add-end
overflow_add-end c = let f = few-digits c.args.number (omega arith) in omega arith

pub overflow_add-result : goal.overflow_add-result
overflow_add-result c = let f = few-digits c.args.number (omega arith) in omega arith

pub returns : goal.returns
returns c =
    let a = c.args in
    refusal-put a.number a.out.now (omega arith) (omega arith) _ c.decimal_length-end.ensures (put_whole (ascii "REFUSED ") a.out.now 0 (omega arith) c.put.ensures) c.put_decimal.ensures c.put-2.ensures
