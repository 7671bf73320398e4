-- Texts in EBCDIC, and what of a padded one is the same one padded to less. Assumes nothing.
use Rattle.std.proofs.Common.{◌≡◌, ℕ, zero, suc, ◌+◌, ◌-◌, ◌≤◌, List, [], ◌∷◌, ◌++◌, length, take, drop, replicate, refl, ap, append_assoc, arith, take_at}
use lib.ListN.{replicate-append-replicate}
use Rattle.names.specs.Name.{raised_byte}
use Rattle.names.specs.Padding.{filled}
use Rattle.names.specs.Ebcdic.{ebcdic, ebcdic_of}
use Rattle.names.proofs.Text.{length-filled}

pub length-ebcdic : (t : List ℕ) → length (ebcdic_of t) ≡ length t
length-ebcdic [] = refl
length-ebcdic (b ∷ bs) = ap suc (length-ebcdic bs)

pub ebcdic-take : (k : ℕ) (t : List ℕ) → ebcdic_of (take k t) ≡ take k (ebcdic_of t)
ebcdic-take zero t = refl
ebcdic-take (suc k) [] = refl
ebcdic-take (suc k) (b ∷ bs) = ap (λ l. ebcdic (raised_byte b) ∷ l) (ebcdic-take k bs)

pub ebcdic-drop : (k : ℕ) (t : List ℕ) → ebcdic_of (drop k t) ≡ drop k (ebcdic_of t)
ebcdic-drop zero t = refl
ebcdic-drop (suc k) [] = refl
ebcdic-drop (suc k) (b ∷ bs) = ebcdic-drop k bs

-- the first `k` bytes of a text padded to `n` are the text padded to `k`
pub take-filled : (pad k n : ℕ) (l : List ℕ) → length l ≤ k → k ≤ n → take k (filled pad n l) ≡ filled pad k l
unfolding filled
take-filled pad k n l h g =
    let e : k - length l + (n - k) ≡ n - length l = omega arith in
    let s : length (filled pad k l) ≡ k = omega (arith, length-filled pad k l) in
    let whole : l ++ replicate (n - length l) pad ≡ (l ++ replicate (k - length l) pad) ++ replicate (n - k) pad =
    rw (append_assoc, replicate-append-replicate, e) in
    rw whole (take_at (l ++ replicate (k - length l) pad) (replicate (n - k) pad) k s)
