-- How long a well-formed record at the front of bytes is. Assumes nothing.
use mathlib.Core.Path.{◌≡◌}
use mathlib.Core.Bool.{true, ◌&&◌}
use mathlib.Core.List.{List, [], ◌∷◌, ◌++◌}
use Prim.Native.Nat.{ℕ, ◌+◌, ◌≤◌}
use native.Mathlib.Omega.{arith}
use borrow.Author.Tests.{leb-true}
use mathlib.Core.Bool.{and-eq-true_iff}
use lib.Dec.{leb}
use lib.ListN.{length, take, drop, length-append, length-take, length-drop}
use Rattle.words.specs.BigEndian.{bytes}
use Rattle.words.proofs.BigEndian.{length-bytes}
use Rattle.profile.specs.Profile.{Shape, token_bytes, tokens_of, sum_of, body_length, record_length, body_of, record_bytes}
use Rattle.profile.specs.Table.{name_length_at, name_at, profile_at, is_record}
use Rattle.profile.proofs.Backs.{joined-split}

module _ (s : Shape) (bs : List ℕ) (good : is_record s bs ≡ true) where
  -- it is not cut
  pub reaches : record_length s (name_length_at bs) ≤ length bs
  unfolding is_record
  reaches = leb-true (record_length s (name_length_at bs)) (length bs) ((and-eq-true_iff (leb (record_length s (name_length_at bs)) (length bs)) _).0 good).0

  length-name : length (name_at bs) ≡ name_length_at bs
  length-name = simp (length-take, length-drop) (omega (arith, reaches))

  length-tokens : length (token_bytes (tokens_of s.tokens (drop (4 + name_length_at bs) bs))) ≡ sum_of s.tokens
  length-tokens = rw (joined-split s.tokens (drop (4 + name_length_at bs) bs)) (simp (length-take, length-drop) (omega (arith, reaches)))

  -- and as long as its profile's record
  pub length-record : length (record_bytes (profile_at s bs)) ≡ record_length s (name_length_at bs)
  unfolding record_bytes
  length-record =
      let p = profile_at s bs in
      omega (
        arith,
        length-append (bytes 2 (length (body_of p))) (body_of p),
        length-bytes 2 (length (body_of p)),
        length-append (name_at bs) (token_bytes (tokens_of s.tokens (drop (4 + name_length_at bs) bs))),
        length-name,
        length-tokens,
      )
