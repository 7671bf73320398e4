-- A digest has twenty bytes. Assumes nothing.
use mathlib.Core.Path.{◌≡◌}
use mathlib.Core.List.{List}
use Prim.Native.Nat.{ℕ}
use lib.ListN.{length, length-append}
use Rattle.words.proofs.BigEndian.{length-bytes}
use Rattle.sha1_hash.specs.Sha1.{Five, digest_of, sha1}

length-digest : (H : Five) → length (digest_of H) ≡ 20
unfolding digest_of
length-digest H = simp (length-append, length-bytes)

pub length-sha1 : (m : List ℕ) → length (sha1 m) ≡ 20
unfolding sha1
length-sha1 m = length-digest _
