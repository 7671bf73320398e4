-- The laws of reading a payload, by its first bytes. Assumes nothing.
use mathlib.Core.Path.{◌≡◌}
use mathlib.Core.Bool.{true, false}
use mathlib.Core.List.{List, [], ◌∷◌}
use Prim.Native.Nat.{ℕ, ◌≤◌, ◌<◌}
use native.Mathlib.Omega.{arith}
use borrow.Author.Tests.{le-ltb}
use lib.ListN.{length, get_or, drop}
use Rattle.telnet.specs.Event.{payload_limit}
use Rattle.std.specs.Prelude.{Err}
use Rattle.env_delivery.specs.Promise.{delivery, delivered, read_into, read_after}
use Rattle.env.specs.Variable.{is_first}
use Rattle.env.specs.Read.{begun}
use Rattle.env.proofs.Limits.{reading-short, reading-long}
use Rattle.refusal.specs.declared.Refusal.TheVariants.{NotIsOrInfo, PayloadTooLong}

-- by the first bytes of a payload
module _ (bytes numbers : List ℕ) where
  pub read-long : (p : List ℕ) → payload_limit < length p → read_into p bytes numbers ≡ delivery (Err PayloadTooLong) bytes numbers
  unfolding delivered
  read-long p h = rw (reading-long p h)

  pub read-empty : (p : List ℕ) → length p ≡ 0 → read_into p bytes numbers ≡ delivery (Err NotIsOrInfo) bytes numbers
  unfolding delivered begun
  read-empty [] h = rw (reading-short [] (omega arith))
  read-empty (b ∷ bs) h = absurd (omega arith)

  pub read-unknown : (p : List ℕ) → 0 < length p → length p ≤ payload_limit → is_first (get_or p 0 0) ≡ false
      → read_into p bytes numbers ≡ delivery (Err NotIsOrInfo) bytes numbers
  unfolding delivered begun
  read-unknown [] h g e = absurd (omega arith)
  read-unknown (b ∷ bs) h g e = rw (reading-short (b ∷ bs) g, e)

  pub read_known : (p : List ℕ) → 0 < length p → length p ≤ payload_limit → is_first (get_or p 0 0) ≡ true
      → read_into p bytes numbers ≡ read_after (get_or p 0 0) (drop 1 p) bytes numbers
  unfolding begun read_after
  read_known [] h g e = absurd (omega arith)
  read_known (b ∷ bs) h g e = rw (reading-short (b ∷ bs) g, e, le-ltb payload_limit (length (b ∷ bs)) g)
