-- What is hashed: pieces put one after the other into a buffer. Assumes nothing.
use mathlib.Core.Path.{◌≡◌, refl, sym, ap, ◌∙◌}
use mathlib.Core.Bool.{Bool, true}
use mathlib.Core.List.{List, [], ◌++◌, append_assoc}
use Prim.Native.Nat.{ℕ, ◌+◌, ◌-◌, ◌*◌, ◌≤◌}
use native.Mathlib.Omega.{arith}
use lib.ListN.{length, take, replicate, length-append}
use Rattle.octets.specs.Lent.{outcome, overwrite}
use Rattle.octets.specs.Promise.{put_at}
use Rattle.octets.proofs.Overwrite.{overwrite-whole, overwrite-nil, take-overwrite-front}
use Rattle.octets.proofs.Pieces.{after, put-after}
use Rattle.names.specs.Name.{raised, is_name, profile_limit}
use Rattle.names.specs.Padding.{filled}
use Rattle.password_sha.specs.Sha.{unicode, uppercase-unicode-userid}
use Rattle.password_sha.proofs.Texts.{length-blanked}
use Rattle.password_sha.proofs.Unicode.{length-unicode}

pub length-userid : (t : List ℕ) → is_name profile_limit t ≡ true → length (uppercase-unicode-userid t) ≡ 20
length-userid t good = length-unicode (filled 0x20 10 (raised t)) ∙ rw (length-blanked t good)

-- the two pieces of a token
pub token-text : (t p : List ℕ) → is_name profile_limit t ≡ true → length p ≤ 128
    → take (20 + 2 * length p - 0) (overwrite (overwrite (replicate 276 0) 0 (uppercase-unicode-userid t)) 20 (unicode p))
    ≡ uppercase-unicode-userid t ++ unicode p
token-text t p good few =
    let u = uppercase-unicode-userid t in
    let n = length-userid t good in
    let k = length-unicode p in
    let e : 20 + 2 * length p - 0 ≡ length (u ++ unicode p) = rw length-append (omega arith) in
    rw (after (replicate 276 0) u (unicode p) 20 (sym n) (omega arith), e) (take-overwrite-front (replicate 276 0) (u ++ unicode p))

-- the five pieces of a substitute
pub substitute-put : (token s c u q : List ℕ) → length token ≡ 20 → length s ≡ 8 → length c ≡ 8 → length u ≡ 20 → length q ≡ 8
    → (m₁ m₂ m₃ m₅ : List ℕ) (r₁ r₂ r₃ r₅ : Bool)
    → outcome r₁ m₁ ≡ put_at token (replicate 64 0) 0 → outcome r₂ m₂ ≡ put_at s m₁ 20 → outcome r₃ m₃ ≡ put_at c m₂ 28
    → outcome r₅ m₅ ≡ put_at q (overwrite m₃ 36 u) 56 → m₅ ≡ token ++ s ++ c ++ u ++ q
substitute-put token s c u q n₁ n₂ n₃ n₄ n₅ m₁ m₂ m₃ m₅ r₁ r₂ r₃ r₅ h₁ h₂ h₃ h₅ =
    let z : List ℕ = replicate 64 0 in
    let k₂ : 28 ≡ length (token ++ s) = rw length-append (omega arith) in
    let k₃ : 36 ≡ length ((token ++ s) ++ c) = rw length-append (omega arith) in
    let k₄ : 56 ≡ length (((token ++ s) ++ c) ++ u) = rw length-append (omega arith) in
    let k₅ : 64 ≡ length ((((token ++ s) ++ c) ++ u) ++ q) = rw length-append (omega arith) in
    let a₁ = put-after z [] token 0 refl (omega arith) z m₁ r₁ (sym (overwrite-nil z 0)) h₁ in
    let a₂ = put-after z token s 20 (sym n₁) (omega arith) m₁ m₂ r₂ a₁ h₂ in
    let a₃ = put-after z (token ++ s) c 28 k₂ (omega arith) m₂ m₃ r₃ a₂ h₃ in
    let a₄ = ap (λ m. overwrite m 36 u) a₃ ∙ after z ((token ++ s) ++ c) u 36 k₃ (omega arith) in
    let a₅ = put-after z (((token ++ s) ++ c) ++ u) q 56 k₄ (omega arith) (overwrite m₃ 36 u) m₅ r₅ a₄ h₅ in
    a₅ ∙ overwrite-whole z ((((token ++ s) ++ c) ++ u) ++ q) (sym k₅) ∙ simp append_assoc
