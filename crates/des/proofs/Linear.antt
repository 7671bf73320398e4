-- Linear functions of numbers: those that take a sum without carries (`bit_xor`) to the sum of what its terms give. Two
-- of them that agree at each power of two below 2 ^ n, which one computed test shows, agree at each number below 2 ^ n.
-- Assumes nothing.
use mathlib.Core.Path.{◌≡◌, refl, sym, ap, ap₂, ◌∙◌}
use mathlib.Core.Bool.{Bool}
use mathlib.Core.List.{List, [], ◌∷◌, map}
use Prim.Native.Nat.{ℕ, zero, suc, ◌+◌, ◌-◌, ◌*◌, ◌/◌, ◌%◌, ◌^◌, ◌<◌, min}
use native.Mathlib.Nat.{zero-mul, one-mul, mod-lt, pow-suc, add-zero, div-lt_iff_lt-mul}
use native.Mathlib.Omega.{arith}
use lib.Arith.{bin_ind}
use lib.Bits.{bit_and, bit_xor, differ, and_step, and_shr, and_mod, xor_step, xor_shr, xor_mod, xor_comm, xor_block, xor_self, xor_shifted}
use lib.Dec.{T, eqb, eqb→eq}
use lib.Pow.{pow_pos, split}
use mir.Facts.{and_yes}
use Rattle.des.proofs.Each.{each, at}
use Rattle.des.specs.Blocks.{bit, continued, permuted}

-- a test of three digits, computed
three : (p : ℕ → ℕ → ℕ → Bool) → T (each (λ x. each (λ y. each (p x y) 2) 2) 2) → (x y z : ℕ) → x < 2 → y < 2 → z < 2 → T (p x y z)
three p t x y z h i j = at (p x y) 2 (at (λ v. each (p x v) 2) 2 (at (λ u. each (λ v. each (p u v) 2) 2) 2 t x h) y i) z j

digits-assoc : (x y z : ℕ) → x < 2 → y < 2 → z < 2 → differ (bit_xor x y) z ≡ differ x (bit_xor y z)
digits-assoc x y z h i j =
    eqb→eq (differ (bit_xor x y) z) (differ x (bit_xor y z))
    (three (λ u v w. eqb (differ (bit_xor u v) w) (differ u (bit_xor v w))) tt x y z h i j)

pub xor_assoc : (a b c : ℕ) → bit_xor (bit_xor a b) c ≡ bit_xor a (bit_xor b c)
xor_assoc a =
    bin_ind (λ (n : ℕ). (b c : ℕ) → bit_xor (bit_xor n b) c ≡ bit_xor n (bit_xor b c)) (λ b c. refl)
    (λ n ih b c.
    xor_step (bit_xor n b) c
    ∙ ap₂ (λ (q r : ℕ). q * 2 + r)
    (ap (λ (q : ℕ). bit_xor q (c / 2)) (xor_shr n b 1) ∙ ih (b / 2) (c / 2) ∙ ap (bit_xor (n / 2)) (sym (xor_shr b c 1)))
    (ap (λ (r : ℕ). differ r (c % 2)) (xor_mod n b 1)
    ∙ digits-assoc (n % 2) (b % 2) (c % 2) (omega arith) (omega arith) (omega arith) ∙ ap (differ (n % 2)) (sym (xor_mod b c 1)))
    ∙ sym (xor_step n (bit_xor b c)))
    a

-- two sums of two, taken across
xor-across : (a b c d : ℕ) → bit_xor (bit_xor a b) (bit_xor c d) ≡ bit_xor (bit_xor a c) (bit_xor b d)
xor-across a b c d =
    xor_assoc a b (bit_xor c d)
    ∙ ap (bit_xor a) (sym (xor_assoc b c d) ∙ ap (λ (x : ℕ). bit_xor x d) (xor_comm b c) ∙ xor_assoc c b d)
    ∙ sym (xor_assoc a c (bit_xor b d))

pub record Linear (g : ℕ → ℕ) : Type 0 where
  pub adds : (a b : ℕ) → g (bit_xor a b) ≡ bit_xor (g a) (g b)

pub as-it-is : Linear (λ x. x)
as-it-is = record { adds = λ a b. refl }

pub down : (k : ℕ) → Linear (λ x. x / 2 ^ k)
down k = record { adds = λ a b. xor_shr a b k }

pub cut : (k : ℕ) → Linear (λ x. x % 2 ^ k)
cut k = record { adds = λ a b. xor_mod a b k }

pub up : (k : ℕ) → Linear (λ x. x * 2 ^ k)
up k = record { adds = λ a b. sym (simp add-zero at (xor_block k a b 0 0 (pow_pos k) (pow_pos k))) }

digits-spread : (x y z : ℕ) → x < 2 → y < 2 → z < 2 → min (bit_xor x y) z ≡ differ (bit_and x z) (bit_and y z)
digits-spread x y z h i j =
    eqb→eq (min (bit_xor x y) z) (differ (bit_and x z) (bit_and y z))
    (three (λ u v w. eqb (min (bit_xor u v) w) (differ (bit_and u w) (bit_and v w))) tt x y z h i j)

and-spread : (a b m : ℕ) → bit_and (bit_xor a b) m ≡ bit_xor (bit_and a m) (bit_and b m)
and-spread a =
    bin_ind (λ (n : ℕ). (b m : ℕ) → bit_and (bit_xor n b) m ≡ bit_xor (bit_and n m) (bit_and b m)) (λ b m. refl)
    (λ n ih b m.
    and_step (bit_xor n b) m
    ∙ ap₂ (λ (q r : ℕ). q * 2 + r)
    (ap (λ (q : ℕ). bit_and q (m / 2)) (xor_shr n b 1) ∙ ih (b / 2) (m / 2) ∙ ap₂ bit_xor (sym (and_shr n m 1)) (sym (and_shr b m 1)))
    (ap (λ (r : ℕ). min r (m % 2)) (xor_mod n b 1)
    ∙ digits-spread (n % 2) (b % 2) (m % 2) (omega arith) (omega arith) (omega arith)
    ∙ ap₂ differ (sym (and_mod n m 1)) (sym (and_mod b m 1)))
    ∙ sym (xor_step (bit_and n m) (bit_and b m)))
    a

-- the bits under a mask
pub keep : (m : ℕ) → Linear (λ x. bit_and x m)
keep m = record { adds = λ a b. and-spread a b m }

pub after : {g h : ℕ → ℕ} → Linear g → Linear h → Linear (λ x. g (h x))
after {g} {h} lg lh = record { adds = λ a b. ap g (lh.adds a b) ∙ lg.adds (h a) (h b) }

infixl 6 ◌⊕◌
pub ◌⊕◌ : {g h : ℕ → ℕ} → Linear g → Linear h → Linear (λ x. bit_xor (g x) (h x))
◌⊕◌ {g} {h} lg lh = record { adds = λ a b. ap₂ bit_xor (lg.adds a b) (lh.adds a b) ∙ xor-across (g a) (g b) (h a) (h b) }

bits-added : (w p x y : ℕ) → bit w (bit_xor x y) p ≡ bit_xor (bit w x p) (bit w y p)
bits-added w p x y = ap (λ (z : ℕ). z % 2) (xor_shr x y (w - p)) ∙ xor_mod (x / 2 ^ (w - p)) (y / 2 ^ (w - p)) 1

table-added : (w x y : ℕ) (t : List ℕ) (a b : ℕ)
    → continued 1 (bit_xor a b) (map (bit w (bit_xor x y)) t) ≡ bit_xor (continued 1 a (map (bit w x) t)) (continued 1 b (map (bit w y) t))
unfolding continued
table-added w x y [] a b = refl
table-added w x y (p ∷ ps) a b =
    ap (λ (c : ℕ). continued 1 c (map (bit w (bit_xor x y)) ps))
    (ap (λ (d : ℕ). bit_xor a b * 2 + d) (bits-added w p x y) ∙ sym (xor_block 1 a b (bit w x p) (bit w y p) (omega arith) (omega arith)))
    ∙ table-added w x y ps (a * 2 + bit w x p) (b * 2 + bit w y p)

-- what a table makes of a block
pub table : (w : ℕ) (t : List ℕ) → Linear (permuted w t)
unfolding permuted
table w t = record { adds = λ a b. table-added w a b t 0 0 }

-- the test: two functions agree at each power of two below 2 ^ n
abbrev pub same : (ℕ → ℕ) → (ℕ → ℕ) → ℕ → Bool
same g h n = each (λ k. eqb (g (2 ^ k)) (h (2 ^ k))) n

at_zero : {g : ℕ → ℕ} → Linear g → g 0 ≡ 0
at_zero {g} l = l.adds 0 0 ∙ xor_self (g 0)

pub agree : {g h : ℕ → ℕ} → Linear g → Linear h → (n : ℕ) → T (same g h n) → (x : ℕ) → x < 2 ^ n → g x ≡ h x
agree {g} {h} lg lh zero t x i =
    let z : x ≡ 0 = omega arith in
    rw z (at_zero lg ∙ sym (at_zero lh))
agree {g} {h} lg lh (suc n) t x i =
    let y = and_yes (eqb (g (2 ^ n)) (h (2 ^ n))) (same g h n) t in
    let q = x / 2 ^ n in
    let r = x % 2 ^ n in
    let small : r < 2 ^ n = mod-lt x (pow_pos n) in
    let e : 2 ^ suc n ≡ 2 ^ n * 2 = pow-suc 2 n in
    let cut_up : bit_xor (q * 2 ^ n) r ≡ x = xor_shifted q n r small ∙ split x n in
    let high = top q ((div-lt_iff_lt-mul (pow_pos n)).1 (omega arith)) (eqb→eq (g (2 ^ n)) (h (2 ^ n)) y.0) in
    sym (ap g cut_up) ∙ lg.adds (q * 2 ^ n) r ∙ ap₂ bit_xor high (agree lg lh n y.1 r small) ∙ sym (lh.adds (q * 2 ^ n) r) ∙ ap h cut_up
  where
    top : (q : ℕ) → q < 2 → g (2 ^ n) ≡ h (2 ^ n) → g (q * 2 ^ n) ≡ h (q * 2 ^ n)
    top zero j e = rw (zero-mul (2 ^ n)) (at_zero lg ∙ sym (at_zero lh))
    top (suc zero) j e = rw (one-mul (2 ^ n)) e
    top (suc (suc q)) j e = omega arith
