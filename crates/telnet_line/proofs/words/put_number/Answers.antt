-- `telnet_line::words::put_number` meets its contract. Assumes nothing.
use mathlib.Core.Path.{ap}
use Prim.Native.Nat.{◌+◌}
use native.Mathlib.Omega.{arith}
use Rattle.octets.specs.Decimal.{decimal}
use Rattle.octets.proofs.Decimal.{length-decimal-word}
use Rattle.octets.proofs.Promise.{put_whole}
use Rattle.telnet_line.proofs.words.put_number.Goals as goal

pub overflow_add-result : goal.overflow_add-result
overflow_add-result c = omega (arith, c.decimal_length.ensures, length-decimal-word c.args.n c.ranges.n.fits)

pub returns : goal.returns
returns c =
    let a = c.args in
    let few = length-decimal-word a.n c.ranges.n.fits in
    record {
      after = ap (λ k. a.at + k) c.decimal_length.ensures;
      bytes = put_whole (decimal a.n) a.out.now a.at (omega (arith, few)) c.put_decimal.ensures;
      few = few;
    }
