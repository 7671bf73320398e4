-- `names::ebcdic` meets its contract: each arm of the `match` is compared with the definition at every byte that
-- reaches it. Assumes nothing.
use Rattle.std.specs.Prelude.{if◌then◌else◌}
use mathlib.Core.Path.{◌≡◌, refl, ◌∙◌}
use Prim.Native.Nat.{ℕ, ◌+◌, ◌-◌}
use native.Mathlib.Omega.{arith}
use lib.Dec.{eqb}
use borrow.Author.Tests.{ne_eqb}
use Rattle.names.specs.Ebcdic.{ebcdic}
use Rattle.names.proofs.Agreement.{agree}
use Rattle.names.proofs.ebcdic.Goals as goal

-- what is neither letter nor digit
sign : ℕ → ℕ
sign b =
    if eqb b 0x24 then 0x5B else
    if eqb b 0x23 then 0x7B else
    if eqb b 0x40 then 0x7C else
    if eqb b 0x5F then 0x6D else
    0x3F

no_sign : (b : ℕ) → (b ≡ 0x24 → ⊥) → (b ≡ 0x23 → ⊥) → (b ≡ 0x40 → ⊥) → (b ≡ 0x5F → ⊥) → 0x3F ≡ sign b
unfolding sign
no_sign b d h a u = rw (ne_eqb b 0x24 d, ne_eqb b 0x23 h, ne_eqb b 0x40 a, ne_eqb b 0x5F u)

-- $ # @ _
pub returns-in-36 : goal.returns-in-36
unfolding ebcdic
returns-in-36 c = rw c.in-36.is

pub returns-in-35 : goal.returns-in-35
unfolding ebcdic
returns-in-35 c = rw c.in-35.is

pub returns-in-64 : goal.returns-in-64
unfolding ebcdic
returns-in-64 c = rw c.in-64.is

pub returns-in-95 : goal.returns-in-95
unfolding ebcdic
returns-in-95 c = rw c.in-95.is

-- 0-9, A-I, J-R, S-Z
pub returns-in-48-to-57 : goal.returns-in-48-to-57
unfolding ebcdic
returns-in-48-to-57 c = agree (λ b. 0xF0 + (b - 0x30)) ebcdic 0x30 10 refl c.args.b (omega arith) (omega arith)

pub returns-in-65-to-73 : goal.returns-in-65-to-73
unfolding ebcdic
returns-in-65-to-73 c = agree (λ b. 0xC1 + (b - 0x41)) ebcdic 0x41 9 refl c.args.b (omega arith) (omega arith)

pub returns-in-74-to-82 : goal.returns-in-74-to-82
unfolding ebcdic
returns-in-74-to-82 c = agree (λ b. 0xD1 + (b - 0x4A)) ebcdic 0x4A 9 refl c.args.b (omega arith) (omega arith)

pub returns-in-83-to-90 : goal.returns-in-83-to-90
unfolding ebcdic
returns-in-83-to-90 c = agree (λ b. 0xE2 + (b - 0x53)) ebcdic 0x53 8 refl c.args.b (omega arith) (omega arith)

-- what comes before, between and after them, off the signs
pub returns-in_default : goal.returns-in_default
unfolding ebcdic sign
returns-in_default c =
    let b = c.args.b in
    let off = c.in_default.in_default-own.rest in
    no_sign b off.0.0.0.1 off.0.0.1 off.0.1 off.1 ∙ agree sign ebcdic 0 0x30 refl b (omega arith) (omega arith)

pub returns-in_default-2 : goal.returns-in_default-2
unfolding ebcdic sign
returns-in_default-2 c =
    let b = c.args.b in
    let off = c.in_default.in_default-own.rest in
    no_sign b off.0.0.0.1 off.0.0.1 off.0.1 off.1 ∙ agree sign ebcdic 0x3A 7 refl b (omega arith) (omega arith)

pub returns-in_default-3 : goal.returns-in_default-3
unfolding ebcdic sign
returns-in_default-3 c =
    let b = c.args.b in
    let off = c.in_default.in_default-own.rest in
    no_sign b off.0.0.0.1 off.0.0.1 off.0.1 off.1 ∙ agree sign ebcdic 0x5B 165 refl b (omega arith) (omega arith)
