-- The block of a user identifier, from the identifier padded to sixteen bytes: short, and folded. Assumes nothing.
use Rattle.std.proofs.Common.{◌≡◌, ℕ, ◌<◌, ◌≤◌, List, length, take, ap, arith, le-ltb, lt-ltb}
use Rattle.words.specs.BigEndian.{number}
use Rattle.names.specs.Padding.{filled}
use Rattle.names.specs.Ebcdic.{blank, ebcdic_of}
use Rattle.password_des.specs.Des.{folded, user_id}
use Rattle.password_des.proofs.Padding.{length-ebcdic, take-filled}

module _ (t : List ℕ) where
  -- t in EBCDIC, padded
  abbrev id : List ℕ
  id = filled blank 16 (ebcdic_of t)

  pub first-eight : length t ≤ 8 → take 8 id ≡ filled blank 8 (ebcdic_of t)
  first-eight h = take-filled blank 8 16 (ebcdic_of t) (rw (length-ebcdic t) h) (omega arith)

  pub short : length t ≤ 8 → number (take 8 id) ≡ user_id (ebcdic_of t)
  unfolding user_id
  short h = rw (length-ebcdic t, le-ltb 8 (length t) h) (ap number (first-eight h))

  pub long : 8 < length t → length t ≤ 10 → number (take 8 (folded (take 10 id))) ≡ user_id (ebcdic_of t)
  unfolding user_id folded
  long h g =
      rw (length-ebcdic t, lt-ltb 8 (length t) h, take-filled blank 10 16 (ebcdic_of t) (rw (length-ebcdic t) g) (omega arith))
