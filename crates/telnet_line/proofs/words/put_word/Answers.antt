-- `telnet_line::words::put_word` meets its contract. Assumes nothing.
use mathlib.Core.Path.{refl}
use Prim.Native.Nat.{◌+◌, ◌≤◌}
use native.Mathlib.Omega.{arith}
use lib.ListN.{length, set, length-set}
use Rattle.octets.proofs.Promise.{put_whole}
use Rattle.telnet_line.proofs.Put.{byte-before}
use Rattle.telnet_line.proofs.words.put_word.Goals as goal

pub returns : goal.returns
returns c =
    let a = c.args in
    let w = a.word.now in
    let blank = set a.out.now a.at 32 in
    let room : a.at + 1 + length w ≤ length blank = rw length-set (omega (arith, c.requires)) in
    byte-before 32 c.requires.1 (record {
      after = refl;
      bytes = put_whole w blank (a.at + 1) room c.put.ensures;
      few = omega arith;
    })
