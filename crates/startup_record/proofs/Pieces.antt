-- The fields of a record, put one after the other, are the record. Assumes nothing.
use mathlib.Core.Path.{◌≡◌, refl, sym, ap, ◌∙◌}
use mathlib.Core.Bool.{Bool, true, false}
use mathlib.Core.List.{List, [], ◌∷◌, ◌++◌, append_assoc, append-nil}
use Prim.Native.Nat.{ℕ, ◌+◌, ◌-◌, ◌≤◌, ◌<◌}
use native.Mathlib.Omega.{arith}
use lib.ListN.{length, replicate, length-append, length-map}
use Rattle.octets.specs.Lent.{outcome, overwrite}
use Rattle.octets.specs.Promise.{put_at}
use Rattle.octets.proofs.Promise.{front-short, front_fits}
use Rattle.std.specs.Prelude.{Ok, Err}
use Rattle.refusal.specs.declared.Refusal.TheVariants.{NoRoom, BadDeviceOrSystemName}
use Rattle.refusal.specs.Written.{written_into}
use Rattle.octets.proofs.Overwrite.{overwrite-nil}
use Rattle.octets.proofs.Pieces.{put-after}
use Rattle.names.specs.Ebcdic.{ebcdic, blank, ebcdic_of}
use Rattle.names.specs.Name.{raised_byte, raised, is_name, device_limit, system_limit}
use Rattle.names.specs.Padding.{filled}
use Rattle.names.proofs.Text.{length-filled}
use Rattle.signon.specs.declared.Verdict.{Verdict}
use Rattle.startup.specs.Response.{code_of, fixed_fields, joined, fields, response_of}
use Rattle.startup.proofs.Records.{length-ebcdic, length-code, length-fixed, length-response}
use Rattle.startup_record.specs.Promise.{respond_into}
use Rattle.startup_record.specs.Internal.Parts.{laid_out, Fits}

-- six pieces put in a row
pub six-put : (l h f c s d z : List ℕ) → length h ≡ 4 → length f ≡ 12 → length c ≡ 4 → length s ≡ 8 → length d ≡ 10 → length z ≡ 35 → 73 ≤ length l
    → (m₁ m₂ m₃ m₄ m₅ m₆ : List ℕ) (r₁ r₂ r₃ r₄ r₅ r₆ : Bool)
    → outcome r₁ m₁ ≡ put_at h l 0 → outcome r₂ m₂ ≡ put_at f m₁ 4 → outcome r₃ m₃ ≡ put_at c m₂ 16 → outcome r₄ m₄ ≡ put_at s m₃ 20
    → outcome r₅ m₅ ≡ put_at d m₄ 28 → outcome r₆ m₆ ≡ put_at z m₅ 38
    → m₆ ≡ overwrite l 0 (((((h ++ f) ++ c) ++ s) ++ d) ++ z)
six-put l h f c s d z n₁ n₂ n₃ n₄ n₅ n₆ room m₁ m₂ m₃ m₄ m₅ m₆ r₁ r₂ r₃ r₄ r₅ r₆ h₁ h₂ h₃ h₄ h₅ h₆ =
    let k₂ : 16 ≡ length (h ++ f) = rw length-append (omega arith) in
    let k₃ : 20 ≡ length ((h ++ f) ++ c) = rw length-append (omega arith) in
    let k₄ : 28 ≡ length (((h ++ f) ++ c) ++ s) = rw length-append (omega arith) in
    let k₅ : 38 ≡ length ((((h ++ f) ++ c) ++ s) ++ d) = rw length-append (omega arith) in
    let a₁ = put-after l [] h 0 refl (omega arith) l m₁ r₁ (sym (overwrite-nil l 0)) h₁ in
    let a₂ = put-after l h f 4 (sym n₁) (omega arith) m₁ m₂ r₂ a₁ h₂ in
    let a₃ = put-after l (h ++ f) c 16 k₂ (omega arith) m₂ m₃ r₃ a₂ h₃ in
    let a₄ = put-after l ((h ++ f) ++ c) s 20 k₃ (omega arith) m₃ m₄ r₄ a₃ h₄ in
    let a₅ = put-after l (((h ++ f) ++ c) ++ s) d 28 k₄ (omega arith) m₄ m₅ r₅ a₄ h₅ in
    put-after l ((((h ++ f) ++ c) ++ s) ++ d) z 38 k₅ (omega arith) m₅ m₆ r₆ a₅ h₆

length-four : (code : List ℕ) → length code ≡ 4 → length (filled blank 4 (ebcdic_of code)) ≡ 4
length-four code h =
    omega (arith, length-filled blank 4 (ebcdic_of code), length-map (raised code) ebcdic, length-map code raised_byte)

module _ (code system device : List ℕ) (l : List ℕ) (fit : Fits code system device l) where
  pub fields-put : (m₁ m₂ m₃ m₄ m₅ m₆ : List ℕ) (r₁ r₂ r₃ r₄ r₅ r₆ : Bool)
      → outcome r₁ m₁ ≡ put_at (0x00 ∷ 0x49 ∷ 0x12 ∷ 0xA0 ∷ []) l 0 → outcome r₂ m₂ ≡ put_at (fixed_fields code) m₁ 4
      → outcome r₃ m₃ ≡ put_at (filled blank 4 (ebcdic_of code)) m₂ 16 → outcome r₄ m₄ ≡ put_at (filled blank system_limit (ebcdic_of system)) m₃ 20
      → outcome r₅ m₅ ≡ put_at (filled blank device_limit (ebcdic_of device)) m₄ 28 → outcome r₆ m₆ ≡ put_at (replicate 35 0) m₅ 38
      → m₆ ≡ overwrite l 0 (laid_out code system device)
  fields-put =
      six-put l (0x00 ∷ 0x49 ∷ 0x12 ∷ 0xA0 ∷ []) (fixed_fields code) (filled blank 4 (ebcdic_of code)) (filled blank system_limit (ebcdic_of system))
      (filled blank device_limit (ebcdic_of device)) (replicate 35 0)
      refl (length-fixed code) (length-four code fit.four) (length-ebcdic system_limit system fit.good_system) (length-ebcdic device_limit device fit.good_device) refl fit.room

-- the code has four characters, and so is not padded
code-plain : (fault : Bool) (v : Verdict) → filled blank 4 (ebcdic_of (code_of fault v)) ≡ ebcdic_of (code_of fault v)
unfolding filled
code-plain fault v = rw (length-code fault v) (append-nil (ebcdic_of (code_of fault v)))

regroup : (f c s d z : List ℕ) → (((f ++ c) ++ s) ++ d) ++ z ≡ f ++ (c ++ (s ++ (d ++ (z ++ []))))
regroup f c s d z = simp (append_assoc, append-nil)

pub laid_out_lem : (fault : Bool) (v : Verdict) (system device : List ℕ) → laid_out (code_of fault v) system device ≡ response_of fault v system device
unfolding response_of joined fields
laid_out_lem fault v system device =
    let code = code_of fault v in
    rw (code-plain fault v)
    (ap (λ l. 0x00 ∷ 0x49 ∷ 0x12 ∷ 0xA0 ∷ l)
    (regroup (fixed_fields code) (ebcdic_of code) (filled blank system_limit (ebcdic_of system)) (filled blank device_limit (ebcdic_of device)) (replicate 35 0)))

pub code-four : (fault : Bool) (v : Verdict) → length (code_of fault v) ≡ 4
code-four fault v = omega (arith, length-code fault v, length-map (raised (code_of fault v)) ebcdic, length-map (code_of fault v) raised_byte)

module _ (fault : Bool) (v : Verdict) (system device out : List ℕ) where
  pub bad-device : is_name device_limit device ≡ false → outcome (Err BadDeviceOrSystemName) out ≡ respond_into fault v system device out
  unfolding respond_into
  bad-device d = rw d

  module _ (d : is_name device_limit device ≡ true) where
    pub bad-system : is_name system_limit system ≡ false → outcome (Err BadDeviceOrSystemName) out ≡ respond_into fault v system device out
    unfolding respond_into
    bad-system s = rw (d, s)

    module _ (s : is_name system_limit system ≡ true) where
      written : respond_into fault v system device out ≡ written_into (response_of fault v system device) out
      unfolding respond_into
      written = rw (d, s)

      pub no_room_lem : length out < 73 → outcome (Err NoRoom) out ≡ respond_into fault v system device out
      no_room_lem h =
          let n = length-response fault v system device s d in
          sym (written ∙ front-short _ _ (response_of fault v system device) out (omega arith))

      pub wrote : 73 ≤ length out → (left : List ℕ) → left ≡ overwrite out 0 (laid_out (code_of fault v) system device)
          → outcome (Ok 73) left ≡ respond_into fault v system device out
      wrote h left e =
          let n = length-response fault v system device s d in
          let r = response_of fault v system device in
          let put : left ≡ overwrite out 0 r = e ∙ ap (overwrite out 0) (laid_out_lem fault v system device) in
          rw (put, ← n) (sym (written ∙ front_fits _ _ r out (omega arith)))
