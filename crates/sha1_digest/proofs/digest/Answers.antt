-- `sha1_digest::digest` meets its contract: the message's whole blocks, and then the last ones. Assumes nothing.
use mathlib.Core.Path.{◌≡◌, sym, ◌∙◌, ap}
use Prim.Native.Nat.{◌-◌, ◌*◌, ◌/◌}
use native.Mathlib.Omega.{arith}
use lib.ListN.{length, take, length-drop}
use lib.Seq.{take_all, length-take-le}
use Rattle.sha1_hash.specs.Sha1.{digest_of}
use Rattle.words.specs.Internal.Tail.{end, tail}
use Rattle.sha1_digest.proofs.Last.{left, by-tail}
use Rattle.sha1_digest.proofs.digest.Goals as goal

pub slice_bounds-absorb-end : goal.slice_bounds-absorb-end
slice_bounds-absorb-end c = sym (length-take-le c.end_of-end.result c.last_blocks-last.result (omega arith))

pub returns : goal.returns
returns c =
    let m = c.args.message.now in
    let n = length m - length m / 64 * 64 in
    let all : n ≡ length (left m) = sym (length-drop (length m / 64 * 64) m) in
    let rest : take n (left m) ≡ left m = take_all n (left m) (omega (arith, all)) in
    let at : c.end_of-end.result ≡ end 64 8 (length (left m)) = c.end_of-end.ensures ∙ ap (end 64 8) all in
    let last : take (end 64 8 (length (left m))) c.last_blocks-last.result ≡ tail 64 8 (left m) (8 * length m) =
    rw rest at c.last_blocks-last.ensures.1 in
    c.output.ensures ∙ ap digest_of c.absorb.ensures
    ∙ rw (at, last, c.absorb-h.ensures, c.initial.ensures) (sym (by-tail m))
