-- The parts of a record: what it says of DES, and its pieces put one after the other. Assumes nothing.
use Rattle.std.specs.Prelude.{Result, Ok, Err}
use mathlib.Core.Path.{◌≡◌, refl, sym, ◌∙◌}
use mathlib.Core.Bool.{Bool, true, false, not, and-true, and-false}
use mathlib.Core.List.{List, [], ◌∷◌, ◌++◌, append_assoc}
use Prim.Native.Nat.{ℕ, ◌+◌, ◌≤◌}
use native.Mathlib.Omega.{arith}
use borrow.Author.Tests.{not-true, not-false}
use lib.ListN.{length, replicate, length-append}
use Rattle.octets.specs.Lent.{outcome, overwrite}
use Rattle.octets.specs.Promise.{put_at}
use Rattle.octets.proofs.Choice.{choice}
use Rattle.octets.proofs.Overwrite.{overwrite-nil}
use Rattle.octets.proofs.Pieces.{put-after}
use Rattle.words.specs.BigEndian.{bytes}
use Rattle.refusal.specs.declared.Refusal.{Refusal}
use Rattle.names.specs.Name.{is_name, profile_limit}
use Rattle.password_des.specs.Answer.{des_token}
use Rattle.profile_maker.specs.Made.{has_des_token, des_token_bytes}
use Rattle.profile_maker.specs.Internal.Parts.{SaysDes, laid_out}

-- what an answer of `des_token` means for a record
abbrev pub Means : List ℕ → List ℕ → Bool → Result ℕ Refusal → Type 0
Means name password asked (Ok token) = SaysDes name password asked asked (bytes 8 token)
Means name password asked (Err e) = SaysDes name password asked false (replicate 8 0)

pub means : (name password : List ℕ) (asked : Bool) → is_name profile_limit name ≡ true → Means name password asked (des_token name password)
unfolding des_token des_token_bytes
means name password asked good =
    let has = has_des_token password in
    rw good
    (choice (Means name password asked) (not has)
    (λ e. let none = not-true has e in record { mark = rw none (sym (and-false asked)); bytes = rw none })
    (λ e. let one = not-false has e in record { mark = rw one (sym (and-true asked)); bytes = rw one }))

-- the four pieces of a record, where n is the length of the name
pub record-put : (l name des sha : List ℕ) (flags n : ℕ) → n ≡ length name → 32 + length name ≤ length l → length des ≡ 8 → length sha ≡ 20
    → (m₁ m₂ m₃ m₄ : List ℕ) (r₁ r₂ r₃ r₄ : Bool)
    → outcome r₁ m₁ ≡ put_at (0 ∷ (30 + n) ∷ flags ∷ n ∷ []) l 0 → outcome r₂ m₂ ≡ put_at name m₁ 4
    → outcome r₃ m₃ ≡ put_at des m₂ (4 + n) → outcome r₄ m₄ ≡ put_at sha m₃ (12 + n) → m₄ ≡ overwrite l 0 (laid_out flags name des sha)
record-put l name des sha flags n e room n₃ n₄ m₁ m₂ m₃ m₄ r₁ r₂ r₃ r₄ h₁ h₂ h₃ h₄ =
    let header : List ℕ = 0 ∷ (30 + n) ∷ flags ∷ n ∷ [] in
    let k₃ : 4 + n ≡ length (header ++ name) = rw length-append (omega arith) in
    let k₄ : 12 + n ≡ length ((header ++ name) ++ des) = rw length-append (omega arith) in
    let a₁ = put-after l [] header 0 refl (omega arith) l m₁ r₁ (sym (overwrite-nil l 0)) h₁ in
    let a₂ = put-after l header name 4 refl (omega arith) m₁ m₂ r₂ a₁ h₂ in
    let a₃ = put-after l (header ++ name) des (4 + n) k₃ (omega arith) m₂ m₃ r₃ a₂ h₃ in
    let a₄ = put-after l ((header ++ name) ++ des) sha (12 + n) k₄ (omega arith) m₃ m₄ r₄ a₃ h₄ in
    a₄ ∙ rw (e, append_assoc name des sha)
