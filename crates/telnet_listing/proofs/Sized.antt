-- `sized` in its two cases: the text fits, or it does not; and what an answer of it says. Assumes nothing.
use Rattle.std.specs.Prelude.{Ok, Err}
use mathlib.Core.Path.{◌≡◌}
use mathlib.Core.List.{List}
use mathlib.Core.Logic.{⊎_elim}
use Prim.Native.Nat.{ℕ, ◌≤◌, ◌<◌}
use native.Mathlib.Omega.{arith}
use lib.ListN.{length}
use borrow.Author.Tests.{lt-ltb, le-ltb}
use Rattle.refusal.specs.declared.Refusal.{Refusal}
use Rattle.refusal.specs.declared.Refusal.TheVariants.{NoRoom}
use Rattle.octets.proofs.Order.{below-or-above}
use Rattle.telnet_listing.specs.Internal.Sized.{sized}

module _ (x : List ℕ) (room : ℕ) where
  pub sized-fits : length x ≤ room → sized x room ≡ Ok (length x)
  unfolding sized
  sized-fits h = rw (le-ltb room (length x) h)

  pub sized-refused : room < length x → sized x room ≡ Err NoRoom
  unfolding sized
  sized-refused h = rw (lt-ltb room (length x) h)

  pub wrote-fits : {n : ℕ} → sized x room ≡ Ok n → (length x ≤ room) × (n ≡ length x)
  wrote-fits e =
      ⊎_elim (λ h. let r = sized-refused h in let z : ◌≡◌ {A = ℕ} 0 1 = cc in absurd (omega arith))
      (λ h. let f = sized-fits h in (h, cc)) (below-or-above room (length x))

  pub refused-past : {why : Refusal} → sized x room ≡ Err why → (room < length x) × (why ≡ NoRoom)
  refused-past e =
      ⊎_elim (λ h. let r = sized-refused h in (h, cc))
      (λ h. let f = sized-fits h in let z : ◌≡◌ {A = ℕ} 0 1 = cc in absurd (omega arith)) (below-or-above room (length x))
