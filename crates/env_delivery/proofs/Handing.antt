-- The laws of what becomes of texts and records that were read: the ways of `hand_over`, and that variables handed over
-- are those variables delivered. Assumes nothing.
use Rattle.std.specs.Prelude.{if◌then◌else◌, Ok, Err}
use mathlib.Core.Path.{◌≡◌, refl}
use mathlib.Core.Bool.{Bool, true, false}
use mathlib.Core.List.{List, ◌++◌}
use Prim.Native.Nat.{ℕ, ◌-◌, ◌/◌, ◌≤◌, ◌<◌}
use native.Mathlib.Nat.{zero-add, sub-zero}
use native.Mathlib.Omega.{arith}
use borrow.Author.Tests.{lt-ltb, le-ltb}
use borrow.Rule.Slice.PartMut.{post_of}
use lib.ListN.{length}
use lib.Seq.{take_all}
use Rattle.env_delivery.specs.Promise.{payload_read, delivery, delivered, hand_over, deliver_read}
use Rattle.env.specs.Variable.{Variable, repeated}
use Rattle.env.specs.Read.{variables, says, not_read, distinct}
use Rattle.env.specs.Numbers.{record_width, packed, recorded}
use Rattle.octets.specs.Part.{part}
use Rattle.env.proofs.Holding.{held-recorded, length-recorded}
use Rattle.refusal.specs.declared.Refusal.TheVariants.{NoRoom, RepeatedVariable}
use Rattle.octets.specs.Lent.{overwrite}

-- what a copy to the front of a list leaves
pub copied : (front from list : List ℕ) → front ≡ from → front ++ post_of 0 (length from - 0) list ≡ overwrite list 0 from
unfolding overwrite
copied front from list e = rw (e, sub-zero, zero-add) refl

-- what is handed over, in the order of the tests
module _ (first : ℕ) (texts records bytes numbers : List ℕ) where
  pub handed-no-bytes : length bytes < length texts → hand_over first texts records bytes numbers ≡ delivery (Err NoRoom) bytes numbers
  unfolding hand_over
  handed-no-bytes h = rw (lt-ltb (length bytes) (length texts) h)

  pub handed-no-numbers : length texts ≤ length bytes → length numbers < length records
      → hand_over first texts records bytes numbers ≡ delivery (Err NoRoom) bytes numbers
  unfolding hand_over
  handed-no-numbers h g = rw (le-ltb (length bytes) (length texts) h, lt-ltb (length numbers) (length records) g)

  pub handed-all : length texts ≤ length bytes → length records ≤ length numbers
      → hand_over first texts records bytes numbers
      ≡ delivery (Ok (payload_read first (length records / record_width) (length texts))) (overwrite bytes 0 texts) (overwrite numbers 0 records)
  unfolding hand_over
  handed-all h g = rw (le-ltb (length bytes) (length texts) h, le-ltb (length numbers) (length records) g)

-- the texts and records of variables, handed over, are those variables delivered
pub handed-these : (first : ℕ) (vs : List Variable) (bytes numbers : List ℕ)
    → deliver_read first (packed vs) (recorded 0 vs) bytes numbers ≡ delivered (distinct first (variables vs)) bytes numbers
unfolding deliver_read hand_over distinct delivered part
handed-these first vs bytes numbers =
    let again = held-recorded (packed vs) 0 vs (take_all (length (packed vs)) (packed vs) (omega arith)) in
    let count : length (recorded 0 vs) / record_width ≡ length vs = omega (arith, length-recorded 0 vs) in
    rw (again, count) (by (repeated vs))
  where
    by : (t : Bool) → (if t then delivery (Err RepeatedVariable) bytes numbers else delivered (says first vs) bytes numbers)
        ≡ delivered (if t then not_read RepeatedVariable else says first vs) bytes numbers
    by true = refl
    by false = refl
