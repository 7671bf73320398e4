-- `octets_marked::put_eight` meets its contract: eight bytes without a mark are a piece that is put as it is. Assumes
-- nothing.
use mathlib.Core.Path.{sym, ap}
use Prim.Native.Nat.{◌+◌}
use native.Mathlib.Omega.{arith}
use borrow.Author.Rules.{rules}
use lib.ListN.{take, drop}
use Rattle.octets_marked.specs.Internal.Turn.{Plain}
use Rattle.octets_marked.proofs.Turn.{length_part, length-piece, piece-put}
use Rattle.octets_marked.proofs.put_eight.Goals.{Then-eight_plain}
use Rattle.octets_marked.proofs.put_eight.Goals as goal

-- none of the eight bytes has a mark
plain : (c : Then-eight_plain) → let a = c.args in Plain a.mark a.low a.high a.bytes.now a.from 8
plain c =
    c.eight_plain.ensures c.if-eight_plain.true c.args.mark

pub copy_eight-requires : goal.copy_eight-requires
copy_eight-requires c =
    let a = c.args in
    let s = a.bytes.now in
    let n = length_part s a.from 8 c.requires.0 in
    (search rules, omega (arith, n, c.requires.1, length-piece a.mark a.low a.high s a.from 8 (take 8 (drop a.from s)) (plain (goal.at.copy_eight-requires c).Then-eight_plain)))

pub returns-then-eight_plain : goal.returns-then-eight_plain
returns-then-eight_plain c =
    let a = c.args in
    let s = a.bytes.now in
    let n = length_part s a.from 8 c.requires.0 in
    piece-put a.mark a.low a.high s a.from 8 (take 8 (drop a.from s)) (plain (goal.at.returns-then-eight_plain c).Then-eight_plain) a.out.now a.at c.requires.1
    (record { place = ap (λ m. a.at + m) (sym n); lent = c.copy_eight.ensures })
