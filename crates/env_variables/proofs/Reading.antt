-- What the name reader's answer says of what was found, and what is delivered then.
-- Assumes nothing.
use Rattle.std.specs.Prelude.{Ok, Err}
use mathlib.Core.Path.{◌≡◌, refl, sym, ap, ◌∙◌}
use mathlib.Core.List.{List, ◌∷◌}
use Prim.Native.Nat.{ℕ, ◌+◌, ◌*◌, ◌≤◌, ◌<◌}
use native.Mathlib.Omega.{arith}
use borrow.Author.Tests.{lt-ltb, le-ltb}
use lib.ListN.{length, take, length-take}
use Rattle.telnet.specs.Event.{payload_limit}
use Rattle.env_variables.specs.declared.Held.{Held}
use Rattle.refusal.specs.declared.Refusal.{Refusal}
use Rattle.env_variables.specs.Internal.Found.{Buffers, held, NameRead}
use Rattle.env_delivery.specs.Promise.{delivery, delivered, deliver_read, read_after}
use Rattle.env_delivery.proofs.Handing.{handed-these}
use Rattle.env.specs.Variable.{Variable, variable_limit}
use Rattle.env.specs.Fields.{row_of}
use Rattle.env.specs.Read.{Found, variables, fault, distinct, variables_of}
use Rattle.env.specs.Numbers.{record_width, packed, recorded}
use Rattle.env.proofs.Holding.{length-recorded}
use Rattle.refusal.specs.declared.Refusal.TheVariants.{PayloadTooLong}
use Rattle.octets.proofs.Overwrite.{take-overwrite-front}

-- the fault that was found
pub name-fault : (found : Found) (n : Refusal) (at k : ℕ) (before after : Buffers) → NameRead found at k before (Err n) after → found ≡ fault n
unfolding NameRead
name-fault (fault m) n at k before after is = cc
name-fault (variables vs) n at k before after is = let a = is.answer in cc

-- all of the variables from the front on, in a buffer and a list of the reader's own
pub record AllRead (found : Found) (bytes numbers : List ℕ) (count used : ℕ) : Type 0 where
  pub all : List Variable
  pub those : found ≡ variables all
  pub texts : take used bytes ≡ packed all
  pub records : take (record_width * count) numbers ≡ recorded 0 all

pub name-variables : (found : Found) (h : Held) (before after : Buffers) → NameRead found 0 0 before (Ok h) after
    → (h.count ≤ variable_limit) × (h.used ≤ length after.bytes) × (record_width * h.count ≤ length after.numbers) × AllRead found after.bytes after.numbers h.count h.used
unfolding NameRead
name-variables (fault m) h before after is = let z : ◌≡◌ {A = ℕ} 0 1 = cc in absurd (omega arith)
name-variables (variables vs) h before after is =
    let a = is.answer in
    let is-held : h ≡ held (0 + length vs) (0 + length (packed vs)) = cc in
    let count = h.count in
    let used = h.used in
    let n : count ≡ 0 + length vs = ap (λ (r : Held). r.count) is-held in
    let m : used ≡ 0 + length (packed vs) = ap (λ (r : Held). r.used) is-held in
    let all : used ≡ length (packed vs) = omega (arith, m) in
    let counted : record_width * count ≡ length (recorded 0 vs) = omega (arith, n, length-recorded 0 vs) in
    let read : AllRead (variables vs) after.bytes after.numbers count used = record {
      all = vs;
      those = refl;
      texts = rw (is.texts, all) (take-overwrite-front before.bytes (packed vs));
      records = rw (is.records, counted) (take-overwrite-front before.numbers (recorded 0 vs));
    } in (
      omega (arith, n, is.limit),
      omega (arith, all, ap length read.texts, length-take used after.bytes),
      omega (arith, counted, ap length read.records, length-take (record_width * count) after.numbers),
      read,
    )

-- what the reader delivers, by what comes after the first byte
module _ (first : ℕ) (rest bytes numbers : List ℕ) where
  pub long_after : payload_limit ≤ length rest → delivery (Err PayloadTooLong) bytes numbers ≡ read_after first rest bytes numbers
  unfolding read_after
  long_after h = rw (lt-ltb payload_limit (length (first ∷ rest)) (omega arith))

  short-after : length rest < payload_limit → delivered (distinct first (variables_of (row_of rest))) bytes numbers ≡ read_after first rest bytes numbers
  unfolding read_after
  short-after h = rw (le-ltb payload_limit (length (first ∷ rest)) (omega arith))

  pub fault-after : (n : Refusal) → length rest < payload_limit → variables_of (row_of rest) ≡ fault n
      → delivery (Err n) bytes numbers ≡ read_after first rest bytes numbers
  unfolding distinct delivered
  fault-after n h e = ap (λ f. delivered (distinct first f) bytes numbers) (sym e) ∙ short-after h

  pub variables-after : (vs : List Variable) → length rest < payload_limit → variables_of (row_of rest) ≡ variables vs
      → deliver_read first (packed vs) (recorded 0 vs) bytes numbers ≡ read_after first rest bytes numbers
  variables-after vs h e = handed-these first vs bytes numbers ∙ ap (λ f. delivered (distinct first f) bytes numbers) (sym e) ∙ short-after h
