-- The bytes of names keep apart in EBCDIC. Assumes nothing.
use Rattle.std.specs.Prelude.{if◌then◌else◌}
use mathlib.Core.Path.{◌≡◌, refl, sym, ap, ◌∙◌}
use mathlib.Core.Bool.{true, not}
use Prim.Native.Nat.{ℕ, zero, suc, ◌<◌}
use native.Mathlib.Omega.{arith}
use lib.Dec.{eqb}
use Rattle.names.specs.Name.{is_name_byte}
use Rattle.names.specs.Ebcdic.{ebcdic, substitute}
use Rattle.names.specs.Theorems.{OwnEbcdic, Apart}
use Rattle.names.proofs.Agreement.{agree}

pub own-ebcdic : OwnEbcdic
unfolding ebcdic is_name_byte
own-ebcdic b h = agree (λ k. not (eqb (ebcdic k) substitute)) is_name_byte 0 256 refl b (omega arith) h

-- the last byte below n with a given EBCDIC
seek : ℕ → ℕ → ℕ
seek e zero = 0
seek e (suc n) = if eqb (ebcdic n) e then n else seek e n

-- a byte of a name is found again by its EBCDIC, below 60X
found : (b : ℕ) → b < 256 → is_name_byte b ≡ true → seek (ebcdic b) 0x60 ≡ b
unfolding ebcdic is_name_byte seek
found b h e = sym (rw e) ∙ agree (λ k. if is_name_byte k then seek (ebcdic k) 0x60 else k) (λ k. k) 0 256 refl b (omega arith) h

pub apart : Apart
apart a b ha hb na nb e = sym (found a ha na) ∙ ap (λ x. seek x 0x60) e ∙ found b hb nb
