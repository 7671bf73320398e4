-- The bytes of a case, put to the front of a buffer of some size. Assumes nothing.
use Rattle.std.specs.Prelude.{if◌then◌else◌}
use mathlib.Core.Path.{◌≡◌, refl, ap, ◌∙◌}
use mathlib.Core.List.{List, []}
use Prim.Native.Nat.{ℕ, ◌≤◌, ◌<◌}
use native.Mathlib.Omega.{arith}
use lib.ListN.{length, take, replicate, length-replicate}
use borrow.Author.Tests.{lt-ltb, le-ltb}
use Rattle.octets.specs.Lent.{Outcome, outcome, overwrite}
use Rattle.octets.proofs.Overwrite.{take-overwrite-front}
use Rattle.octets.proofs.Promise.{front-either}
use Rattle.show.specs.Hex.{hex_bytes}
use Rattle.show.specs.Promise.{hex_into}
use Rattle.show_case.specs.Case.{digits_in, case_in}

-- how many there are, and what they are
pub case_cut : (most : ℕ) (line left : List ℕ) (n : ℕ) → outcome n left ≡ hex_into (digits_in line) (replicate most 0)
    → (n ≤ most) × (take n left ≡ case_in most line)
unfolding case_in
case_cut most line left n =
    let x = hex_bytes (digits_in line) in
    let out : List ℕ = replicate most 0 in
    let size : length out ≡ most = length-replicate most 0 in
    let answer : Outcome ℕ → ℕ = λ o. o.answer in
    front-either (λ k. k) 0 x out
    (λ (o : Outcome ℕ). outcome n left ≡ o → (n ≤ most) × (take n left ≡ case_in most line))
    (λ h e. let z : n ≡ 0 = ap answer e in (omega (arith, z), rw (z, lt-ltb most (length x) (omega (arith, h, size))) refl))
    (λ h e.
    let z : n ≡ length x = ap answer e in
    let l : left ≡ overwrite out 0 x = ap (λ (o : Outcome ℕ). o.lent) e in
    (omega (arith, z, h, size), rw (z, l, le-ltb most (length x) (omega (arith, h, size))) (take-overwrite-front out x)))
