-- `show::put_digits` meets its contract. The loop's invariant: to put the digits from a byte on at `end` gives the
-- buffer with all of them. Assumes nothing.
use mathlib.Core.Path.{◌≡◌, refl, sym, ap, ◌∙◌}
use mathlib.Core.List.{List, ◌++◌}
use Prim.Native.Nat.{ℕ, ◌+◌, ◌*◌, ◌≤◌, ◌<◌}
use native.Mathlib.Nat.{mul_comm, div-lt_iff_lt-mul}
use native.Mathlib.Omega.{arith}
use borrow.Author.Tests.{ltb-true, ltb-false}
use lib.ListN.{length, get_or, drop, length-append}
use Rattle.octets.specs.Lent.{overwrite}
use Rattle.octets.proofs.Overwrite.{length-overwrite, overwrite-append}
use Rattle.octets.proofs.Promise.{put_whole}
use Rattle.show.specs.Hex.{hex_pair, digits_after}
use Rattle.show.proofs.Digits.{length-digits, digits-next, digits-none}
use Rattle.show.proofs.Placing.{placed-refused, placed-all, one_more}
use Rattle.show.proofs.put_digits.Goals as goal

next-length : (w s : List ℕ) (i : ℕ) → i < length s → length (digits_after w (drop i s)) ≡ length w + 2 + length (digits_after w (drop (i + 1) s))
next-length w s i h = ap length (digits-next w s i h) ∙ simp length-append

pub returns-then-out-width : goal.returns-then-out-width
returns-then-out-width c =
    let s = c.args in
    let w : ℕ = length s.words.now + 2 in
    let wide : 0 < w = omega arith in
    let full : length s.out.now < w * length s.bytes.now =
    rw (mul_comm w (length s.bytes.now)) ((div-lt_iff_lt-mul wide).0 c.if-out-width.true) in
    sym (placed-refused (digits_after s.words.now s.bytes.now) s.out.now s.at (rw (length-digits s.words.now s.bytes.now) (omega arith)))

pub returns-then-no_room : goal.returns-then-no_room
returns-then-no_room c =
    let s = c.args in
    let full = ltb-true (length s.out.now) (s.at + (length s.words.now + 2) * length s.bytes.now) (sym c.no_room.ensures ∙ c.if-no_room.true) in
    sym (placed-refused (digits_after s.words.now s.bytes.now) s.out.now s.at (rw (length-digits s.words.now s.bytes.now) full))

pub loop-b-init : goal.loop-b-init
loop-b-init c =
    let s = c.args in
    let room = ltb-false (length s.out.now) (s.at + (length s.words.now + 2) * length s.bytes.now) (sym c.no_room.ensures ∙ c.if-no_room.false) in
    (rw (length-digits s.words.now s.bytes.now) room, refl, refl, refl)

pub put_pair-requires : goal.put_pair-requires
put_pair-requires c =
    let l = c.loop-b in
    let w = c.args.words.now in
    let next = next-length w c.args.bytes.now l.b-index c.loop-b-test.true in
    let fit : l.end + length w + 2 ≤ length l.out = omega arith in
    let words : c.put.new.buffer ≡ overwrite l.out l.end w = put_whole w l.out l.end (omega arith) c.put.ensures in
    omega (arith, ap length words, length-overwrite l.out l.end w (omega arith))

pub loop-b-preserved : goal.loop-b-preserved
loop-b-preserved c =
    let l = c.loop-b in
    let w = c.args.words.now in
    let s = c.args.bytes.now in
    let pair = hex_pair (get_or s l.b-index 0) in
    let next = next-length w s l.b-index c.loop-b-test.true in
    let fit : l.end + (length w + 2) ≤ length l.out = omega arith in
    let words : c.put.new.buffer ≡ overwrite l.out l.end w = put_whole w l.out l.end (omega arith) c.put.ensures in
    let long : length (w ++ pair) ≡ length w + 2 = length-append w pair in
    let piece : c.put_pair.new.out ≡ overwrite l.out l.end (w ++ pair) =
    c.put_pair.ensures ∙ rw words (overwrite-append l.out l.end w pair (omega arith)) in
    let more = one_more l.out l.end (w ++ pair) (digits_after w (drop (l.b-index + 1) s)) (digits-next w s l.b-index c.loop-b-test.true) (omega arith) in (
      l.invariant.0,
      ap length piece ∙ length-overwrite l.out l.end (w ++ pair) (omega arith) ∙ l.invariant.1,
      omega arith,
      rw (piece, ← long) more ∙ l.invariant.3,
    )

pub returns : goal.returns
returns c =
    let l = c.loop-b in
    let s = c.args in
    let none = digits-none s.words.now s.bytes.now l.b-index c.loop-b-test.false in
    placed-all (digits_after s.words.now s.bytes.now) s.out.now s.at (omega (arith, ap length none)) l.invariant.0 none l.invariant.3
