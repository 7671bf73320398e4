-- What the private functions of the cipher promise each other.
use Rattle.std.specs.Prelude.{◌≡◌, List, [], ◌∷◌, ℕ, zero, suc, ◌-◌, ◌*◌, ◌/◌, ◌%◌, ◌^◌, ◌<◌}
use Rattle.des.specs.Blocks.{permuted, group}
use Rattle.des.specs.Cipher.{S, selected}
use Rattle.des.specs.Tables.{E}

-- e holds the groups of E(R), each four bits further right than the one before it
abbrev pub Widened : ℕ → ℕ → Type 0
Widened R e = (j : ℕ) → j < 8 → group (permuted 32 E R) (suc j) ≡ e / 2 ^ (28 - 4 * j) % 2 ^ 6

-- g i, g (i + 1), .., in all n
abbrev pub listed : {A : Type 0} → (ℕ → A) → ℕ → ℕ → List A
listed g i zero = []
listed g i (suc n) = g i ∷ listed g (suc i) n

-- the numbers of the S boxes, one box after the other, each in the order of the six bits that select them
unfoldable pub box_array : List ℕ
box_array = listed (λ i. selected (S (suc (i / 64))) (i % 64)) 0 512
