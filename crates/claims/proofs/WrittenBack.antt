-- What the reader leaves, written, is the payload: the theorem `WrittenBack.ReadIsWrittenBack`. Assumes nothing.
use Rattle.std.specs.Prelude.{Ok, Err}
use Rattle.refusal.specs.declared.Refusal.{Refusal}
use Rattle.env_delivery.specs.declared.Payload.{Payload}
use mathlib.Core.Path.{◌≡◌, refl, ap, ◌∙◌}
use mathlib.Core.List.{List}
use Prim.Native.Nat.{ℕ, ◌*◌, ◌≤◌}
use native.Mathlib.Omega.{arith}
use borrow.Author.Tests.{ltb-false}
use denote.Floats.{is_true}
use lib.Dec.{ltb}
use lib.ListN.{length, take}
use Rattle.octets.specs.Lent.{overwrite}
use Rattle.octets.proofs.Choice.{choice}
use Rattle.octets.proofs.Overwrite.{take-overwrite-front}
use Rattle.refusal.specs.Written.{written_into}
use Rattle.env.specs.Variable.{Variable, is_first}
use Rattle.env.specs.Read.{Reading, says, not_read, reading_of}
use Rattle.env.specs.Numbers.{record_width, packed, recorded, placed}
use Rattle.env.proofs.Holding.{length-recorded, holds-again}
use Rattle.env.proofs.WritingBack.{writes-back}
use Rattle.env_delivery.specs.Promise.{Delivery, delivery, delivered}
use Rattle.env_writer.specs.Promise.{put, write_into}
use Rattle.claims.specs.WrittenBack.{ReadIsWrittenBack}

module _ (payload out : List ℕ) where
  -- a delivery that is written as the payload
  abbrev Written : Delivery → Type 0
  Written d =
      (p : Payload) → d.answer ≡ Ok p
      → write_into p.first d.bytes (take (record_width * p.count) d.numbers) out ≡ written_into payload out

  refused-written : (why : Refusal) (bytes numbers : List ℕ) → Written (delivery (Err why) bytes numbers)
  refused-written why bytes numbers p e = let z : ◌≡◌ {A = ℕ} 0 1 = cc in absurd (omega arith)

  -- variables that were read, packed and recorded where there is room
  said-written : (first : ℕ) (vs : List Variable) (bytes : List ℕ) → reading_of payload ≡ says first vs → length (packed vs) ≤ length bytes
      → write_into first (overwrite bytes 0 (packed vs)) (recorded 0 vs) out ≡ written_into payload out
  unfolding write_into put
  said-written first vs bytes e room =
      let back = writes-back payload first vs e in
      let a = back.0 in
      let held = holds-again bytes 0 vs (omega arith) in
      let all_placed = is_true (placed (overwrite bytes 0 (packed vs)) (recorded 0 vs)) (held.1 a.kinds) in
      rw (is_true (is_first first) a.begins, all_placed, held.0, a.unobjected) (ap (λ (p : List ℕ). written_into p out) back.1)

  delivered-written : (r : Reading) (bytes numbers : List ℕ) → reading_of payload ≡ r → Written (delivered r bytes numbers)
  unfolding delivered
  delivered-written (not_read why) bytes numbers e = refused-written why bytes numbers
  delivered-written (says f vs) bytes numbers e =
      choice Written (ltb (length bytes) (length (packed vs))) (λ _. refused-written _ bytes numbers) λ room.
      choice Written (ltb (length numbers) (length (recorded 0 vs))) (λ _. refused-written _ bytes numbers) λ _ p told.
      let c : length vs ≡ p.count = cc in
      let g : f ≡ p.first = cc in
      let k : record_width * p.count ≡ length (recorded 0 vs) = omega (arith, length-recorded 0 vs) in
      let kept = ap (λ n. take n (overwrite numbers 0 (recorded 0 vs))) k ∙ take-overwrite-front numbers (recorded 0 vs) in
      rw (kept, ← g) (said-written f vs bytes e (ltb-false (length bytes) (length (packed vs)) room))

pub read-is-written-back : ReadIsWrittenBack
read-is-written-back payload bytes numbers out = delivered-written payload out (reading_of payload) bytes numbers refl
