-- `telnet_data::copy_plain` meets its contract. Assumes nothing.
use mathlib.Core.Path.{sym, ap, ◌∙◌}
use Prim.Native.Nat.{◌≤◌}
use native.Mathlib.Omega.{arith}
use lib.ListN.{length, length-take}
use Rattle.octets.specs.Part.{part}
use Rattle.octets.proofs.Overwrite.{overwrite-nil}
use Rattle.octets.specs.Promise.{put_at}
use Rattle.octets.proofs.Promise.{put_whole}
use Rattle.telnet_data.proofs.copy_plain.Goals as goal

pub returns-then-n-eq0 : goal.returns-then-n-eq0
returns-then-n-eq0 c =
    let a = c.args in
    record {
      number = omega arith;
      lent = sym (overwrite-nil a.out.now a.to);
    }

pub returns : goal.returns
unfolding part
returns c =
    let a = c.args in
    let n = c.min-n.result in
    let x = part a.s.now a.at n in
    let some : length x ≤ n = rw length-take (omega arith) in
    let put = c.put.ensures in
    record {
      number = omega arith;
      lent =
          put_whole x a.out.now a.to (omega arith)
          (put ∙ ap (λ l. put_at l a.out.now a.to) c.part.ensures);
    }
