-- The digest by the message's whole blocks and the last ones. Assumes nothing.
use mathlib.Core.Path.{◌≡◌, ap, ◌∙◌}
use mathlib.Core.List.{List}
use Prim.Native.Nat.{ℕ, ◌*◌, ◌/◌, ◌%◌, ◌^◌}
use native.Mathlib.Nat.{mul_comm}
use native.Mathlib.Omega.{arith}
use lib.ListN.{length, drop}
use Rattle.words.specs.BigEndian.{bytes}
use Rattle.words.specs.Blocks.{cut}
use Rattle.words.specs.Padding.{padding, padded}
use Rattle.words.specs.Internal.Tail.{tail}
use Rattle.words.proofs.BigEndian.{bytes-mod}
use Rattle.words.proofs.Blocks.{cut-append}
use Rattle.words.proofs.Tail.{tail-is}
use Rattle.sha1_hash.specs.Sha1.{H⁰, hashed, digest_of, sha1}
use Rattle.sha1_hash.proofs.Chain.{hashed-append}

-- the length that the code writes
pub bits_of : (n : ℕ) → bytes 8 (n * 8 % 2 ^ 64) ≡ bytes 8 (8 * n)
bits_of n = bytes-mod 8 (n * 8) ∙ ap (bytes 8) (mul_comm n 8)

-- what is left of a message after its whole blocks
abbrev pub left : List ℕ → List ℕ
left m = drop (length m / 64 * 64) m

pub by-tail : (m : List ℕ) → sha1 m ≡ digest_of (hashed (hashed H⁰ (cut 64 m)) (cut 64 (tail 64 8 (left m) (8 * length m))))
unfolding sha1 padded
by-tail m = rw (cut-append 64 m (padding 512 64 (length m)) (omega arith), hashed-append H⁰ (cut 64 m), tail-is 64 8 (omega arith) m)
