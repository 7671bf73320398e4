-- The laws of bytes: how many they are, that they say nothing of what is above them, that they stand for the number
-- they are of, and the number of one byte more. Assumes nothing.
use mathlib.Core.Path.{◌≡◌, refl, sym, ap, ap₂, ◌∙◌}
use mathlib.Core.List.{List, [], ◌∷◌}
use Prim.Native.Nat.{ℕ, zero, suc, ◌+◌, ◌*◌, ◌/◌, ◌%◌, ◌^◌, ◌≤◌, ◌<◌}
use native.Mathlib.Nat.{mod-one, mod-eq_of_lt, mul_assoc, mul-le-mul_right, add-mul}
use native.Mathlib.Omega.{arith}
use lib.Bits.{bit_or, or_shifted}
use lib.ListN.{length}
use lib.Pow.{pow-add, pow_mono, mod-pow-add, field, mod-mod-pow, high, low}
use Rattle.octets.specs.Bytes.{Bytes}
use Rattle.words.specs.BigEndian.{number, bytes}

pub length-bytes : (k x : ℕ) → length (bytes k x) ≡ k
unfolding bytes
length-bytes zero x = refl
length-bytes (suc k) x = ap suc (length-bytes k x)

-- the byte above the k lowest, of a number of which more is kept
byte_low : (j k x : ℕ) → x % 2 ^ (8 * j + 8 + 8 * k) / 2 ^ (8 * k) % 256 ≡ x / 2 ^ (8 * k) % 256
byte_low j k x = rw (field x (8 * j + 8) (8 * k)) (mod-mod-pow (x / 2 ^ (8 * k)) (8 * j) 8)

bytes_below : (k j x : ℕ) → bytes k (x % 2 ^ (8 * (j + k))) ≡ bytes k x
unfolding bytes
bytes_below zero j x = refl
bytes_below (suc k) j x =
    let e : 8 * (j + suc k) ≡ 8 * j + 8 + 8 * k = omega arith in
    let g : 8 * (j + suc k) ≡ 8 * (suc j + k) = omega arith in
    let head : x % 2 ^ (8 * (j + suc k)) / 2 ^ (8 * k) % 256 ≡ x / 2 ^ (8 * k) % 256 = rw e (byte_low j k x) in
    let tail : bytes k (x % 2 ^ (8 * (j + suc k))) ≡ bytes k x = rw g (bytes_below k (suc j) x) in
    rw (head, tail)

pub bytes-mod : (k x : ℕ) → bytes k (x % 2 ^ (8 * k)) ≡ bytes k x
bytes-mod k x =
    let e : 8 * k ≡ 8 * (0 + k) = omega arith in
    ap (λ n. bytes k (x % 2 ^ n)) e ∙ bytes_below k 0 x

pub number-bytes : (k x : ℕ) → number (bytes k x) ≡ x % 2 ^ (8 * k)
unfolding bytes
number-bytes zero x = sym (mod-one x)
number-bytes (suc k) x =
    let e : 8 * suc k ≡ 8 + 8 * k = omega arith in
    rw (length-bytes k x, number-bytes k x, e) (sym (mod-pow-add x 8 (8 * k)))

-- 2 ^ (8 * suc k), as the next byte's weight
weight : (k : ℕ) → 2 ^ (8 * suc k) ≡ 2 ^ (8 * k) * 256
weight k =
    let e : 8 * suc k ≡ 8 * k + 8 = omega arith in
    rw (e, pow-add 2 (8 * k) 8)

-- a number before bytes, of which the first goes over to it
pub number-more : (n b : ℕ) (l : List ℕ) → (n * 256 + b) * 2 ^ (8 * length l) + number l ≡ n * 2 ^ (8 * length (b ∷ l)) + number (b ∷ l)
number-more n b l = rw (weight (length l), add-mul (n * 256) b (2 ^ (8 * length l)), mul_assoc n 256 (2 ^ (8 * length l))) (omega arith)

-- a number of i bytes shifted by one byte within a word of eight, and a byte put after it
pub joined-byte : (n b i : ℕ) → n < 2 ^ (8 * i) → i < 8 → b < 256 → bit_or (n * 256 % 2 ^ 64) b ≡ n * 256 + b
joined-byte n b i h k g =
    let small : 2 ^ (8 * i) ≤ 2 ^ 56 = pow_mono {i = 8 * i} {j = 56} (omega arith) in
    let e : n * 256 % 2 ^ 64 ≡ n * 256 = omega arith in
    rw e (or_shifted n 8 b g)

pub joined-lt : (n b i : ℕ) → n < 2 ^ (8 * i) → b < 256 → n * 256 + b < 2 ^ (8 * suc i)
joined-lt n b i h g = rw (weight i) (omega arith)

-- the number of bytes needs no more than their places
number-below : (l : List ℕ) → Bytes l → number l < 2 ^ (8 * length l)
number-below [] g = omega arith
number-below (b ∷ l) g =
    let r = number-below l (λ i. g (suc i)) in
    let more : (b + 1) * 2 ^ (8 * length l) ≤ 256 * 2 ^ (8 * length l) = mul-le-mul_right (2 ^ (8 * length l)) (omega (arith, g 0)) in
    omega (arith, r, more, weight (length l), add-mul b 1 (2 ^ (8 * length l)))

-- bytes are the bytes of their number
pub bytes-number : (l : List ℕ) → Bytes l → bytes (length l) (number l) ≡ l
unfolding bytes
bytes-number [] g = refl
bytes-number (b ∷ l) g =
    let k = length l in
    let r = number-below l (λ i. g (suc i)) in
    let first : (b * 2 ^ (8 * k) + number l) / 2 ^ (8 * k) % 256 ≡ b = rw (high b (8 * k) r) (mod-eq_of_lt (g 0)) in
    let others : bytes k (b * 2 ^ (8 * k) + number l) ≡ l =
    sym (bytes-mod k (b * 2 ^ (8 * k) + number l)) ∙ ap (bytes k) (low b (8 * k) r) ∙ bytes-number l (λ i. g (suc i)) in
    ap₂ ◌∷◌ first others
