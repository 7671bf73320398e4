-- PW-TOKEN of a password with one key and of one with two, and PW-SUB from the identifier padded to sixteen bytes.
-- Assumes nothing.
use Rattle.std.proofs.Common.{◌≡◌, ℕ, ◌-◌, ◌<◌, ◌≤◌, List, length, take, drop, ap, ◌∙◌, arith, length-drop, take_all, le-ltb, lt-ltb}
use lib.Bits.{bit_xor}
use Rattle.names.specs.Ebcdic.{blank, ebcdic_of}
use Rattle.names.proofs.Text.{length-filled}
use Rattle.password_des.specs.Des.{token_of, PW-TOKEN, padded_id}
use Rattle.password_des.proofs.Padding.{length-ebcdic, ebcdic-take, ebcdic-drop}

pub one_key : (p : List ℕ) (ID : List ℕ) → length p ≤ 8 → token_of (ebcdic_of p) ID ≡ PW-TOKEN (ebcdic_of p) ID
unfolding PW-TOKEN
one_key p ID h = rw (length-ebcdic p, le-ltb 8 (length p) h)

pub two-keys : (p : List ℕ) (ID : List ℕ) → 8 < length p
    → bit_xor (token_of (ebcdic_of (take 8 p)) ID) (token_of (ebcdic_of (take (length p - 8) (drop 8 p))) ID) ≡ PW-TOKEN (ebcdic_of p) ID
unfolding PW-TOKEN
two-keys p ID h =
    let rest : take (length p - 8) (drop 8 p) ≡ drop 8 p = take_all (length p - 8) (drop 8 p) (rw length-drop (omega arith)) in
    rw (rest, ebcdic-take, ebcdic-drop, length-ebcdic p, lt-ltb 8 (length p) h)

-- the second half of a padded identifier
pub second-half : (t : List ℕ) → length t ≤ 16 → take 8 (take 8 (drop 8 (padded_id (ebcdic_of t)))) ≡ drop 8 (padded_id (ebcdic_of t))
second-half t h =
    let id = padded_id (ebcdic_of t) in
    let s : length (drop 8 id) ≤ 8 = rw length-drop (omega (arith, length-filled blank 16 (ebcdic_of t), length-ebcdic t)) in
    ap (take 8) (take_all 8 (drop 8 id) s) ∙ take_all 8 (drop 8 id) s
