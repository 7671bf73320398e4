-- What a writer has left that says how many bytes it wrote. Assumes nothing.
use mathlib.Core.Path.{◌≡◌}
use mathlib.Core.List.{List}
use Prim.Native.Nat.{ℕ}
use native.Mathlib.Omega.{arith}
use lib.ListN.{length, take}
use Rattle.octets.specs.Lent.{Outcome}
use Rattle.octets.proofs.Overwrite.{take-overwrite-front}
use Rattle.octets.proofs.Promise.{front-either}
use Rattle.std.specs.Prelude.{Result, Ok, Err}
use Rattle.refusal.specs.declared.Refusal.{Refusal}
use Rattle.refusal.specs.declared.Refusal.TheVariants.{NoRoom}
use Rattle.refusal.specs.Written.{written_into}

-- no refusal says that bytes were written
pub not-wrote : {A : Type 0} {k : Refusal} {n : ℕ} → ◌≡◌ {A = Result ℕ Refusal} (Err k) (Ok n) → A
not-wrote e = let z : ◌≡◌ {A = ℕ} 0 1 = cc in absurd (omega arith)

-- the bytes are at the front, and `n` is how many they are
pub wrote-front : (bytes out : List ℕ) (n : ℕ) → (written_into bytes out).answer ≡ Ok n
    → (n ≡ length bytes) × (take n (written_into bytes out).lent ≡ bytes)
wrote-front bytes out n =
    front-either Ok (Err NoRoom) bytes out
    (λ (o : Outcome (Result ℕ Refusal)). o.answer ≡ Ok n → (n ≡ length bytes) × (take n o.lent ≡ bytes))
    (λ _ e. not-wrote e)
    (λ _ e. let i : n ≡ length bytes = cc in (i, rw i (take-overwrite-front out bytes)))
