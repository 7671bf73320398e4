-- `octets_marked::put_byte` meets its contract: by whether the byte lies in the range. Assumes nothing.
use mathlib.Core.Path.{◌≡◌, refl, sym, ◌∙◌}
use mathlib.Core.List.{[], ◌∷◌}
use Prim.Native.Nat.{◌+◌, ◌≤◌}
use native.Mathlib.Omega.{arith}
use lib.ListN.{length, length-set}
use Rattle.octets.proofs.Overwrite.{stored, stored-pair}
use Rattle.octets_marked.specs.Marked.{marked}
use Rattle.octets_marked.proofs.Marked.{marked-one, marked-pair}
use Rattle.octets_marked.proofs.put_byte.Goals.{Else-lies, Then-lies}
use Rattle.octets_marked.proofs.put_byte.Goals as goal

-- the byte with its mark, and the byte alone
pair : (c : Then-lies)
    → let a = c.args in marked a.mark a.low a.high (a.b ∷ []) ≡ a.mark ∷ a.b ∷ []
pair c =
    let a = c.args in
    marked-pair a.mark a.low a.high a.b (sym c.lies.ensures ∙ c.if-lies.true)

one : (c : Else-lies)
    → let a = c.args in marked a.mark a.low a.high (a.b ∷ []) ≡ a.b ∷ []
one c =
    let a = c.args in
    marked-one a.mark a.low a.high a.b (sym c.lies.ensures ∙ c.if-lies.false)

fits-two : (c : Then-lies) → c.args.at + 2 ≤ length c.args.out.now
fits-two c =
    rw (pair c) at c.requires

fits_one : (c : Else-lies) → c.args.at + 1 ≤ length c.args.out.now
fits_one c =
    rw (one c) at c.requires

pub bounds-out-at : goal.bounds-out-at
bounds-out-at c = omega (arith, fits-two (goal.at.bounds-out-at c).Then-lies)

pub bounds-out-at-then-lies : goal.bounds-out-at-then-lies
bounds-out-at-then-lies c = simp length-set (omega (arith, fits-two (goal.at.bounds-out-at-then-lies c).Then-lies))

pub returns-then-lies : goal.returns-then-lies
returns-then-lies c =
    let a = c.args in
    rw (pair (goal.at.returns-then-lies c).Then-lies) (record { place = refl; lent = stored-pair a.out.now a.at a.mark a.b (fits-two (goal.at.returns-then-lies c).Then-lies) })

pub bounds-out-at-2 : goal.bounds-out-at-2
bounds-out-at-2 c = omega (arith, fits_one (goal.at.bounds-out-at-2 c).Else-lies)

pub returns : goal.returns
returns c =
    let a = c.args in
    rw (one (goal.at.returns c).Else-lies) (record { place = refl; lent = stored (a.b ∷ []) a.out.now a.at (fits_one (goal.at.returns c).Else-lies) })
