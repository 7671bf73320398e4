-- `sha1_digest::padding::last_blocks` meets its contract: the bytes of the message, the bit 1 and the length, put into
-- zeros. Assumes nothing.
use mathlib.Core.Path.{◌≡◌, refl, ◌∙◌, ap}
use mathlib.Core.List.{List}
use Prim.Native.Nat.{ℕ, ◌-◌, ◌*◌, ◌<◌}
use native.Mathlib.Omega.{arith}
use lib.ListN.{length, take, replicate}
use Rattle.octets.specs.Lent.{overwrite}
use Rattle.octets.proofs.Promise.{put-fits}
use Rattle.words.specs.BigEndian.{bytes}
use Rattle.words.specs.Internal.Tail.{end}
use Rattle.words.proofs.Tail.{begun, room, finished, length-finished, built}
use Rattle.sha1_digest.proofs.Last.{bits_of}
use Rattle.sha1_digest.proofs.padding.last_blocks.Goals.{After-blocks-2-1}
use Rattle.sha1_digest.proofs.padding.last_blocks.Goals as goal

-- the bytes of the message in the buffer, and then the length
first-put : (c : After-blocks-2-1)
    → c.put.new.buffer ≡ overwrite (replicate 128 0) 0 c.args.rest.now
first-put c =
    let rest = c.args.rest.now in
    ap (λ o. o.lent) (c.put.ensures ∙ put-fits rest (replicate 128 0) 0 (omega arith))

pub returns : goal.returns
returns c =
    let rest = c.args.rest.now in
    let ℓ = 8 * c.args.count in
    let n = end 64 8 (length rest) in
    let u : 8 < 64 = omega arith in
    let h = c.requires in
    let zs : List ℕ = replicate 128 0 in
    let length-bytes = c.bytes_64 in
    let word : length-bytes.result ≡ bytes 8 ℓ = length-bytes.ensures ∙ bits_of c.args.count in
    let second = rw (first-put (goal.at.returns c).After-blocks-2-1, word, c.end_of-end.ensures) at c.put-2.ensures in
    let fits = put-fits (bytes 8 ℓ) (begun 64 8 u rest h zs refl) (n - 8) (room 64 8 u rest h zs refl ℓ) in
    let all : c.put-2.new.buffer ≡ finished 64 8 u rest h zs refl ℓ = ap (λ o. o.lent) (second ∙ fits) in
    (ap length all ∙ length-finished 64 8 u rest h zs refl ℓ, ap (take n) all ∙ built 64 8 u rest h zs refl ℓ)
