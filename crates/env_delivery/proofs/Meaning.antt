-- What the reader's answer means (`Theorems.ReadIsHeld`), and that room for the largest payload suffices
-- (`Theorems.RoomSuffices`). Assumes nothing.
use Rattle.std.specs.Prelude.{Ok, Err}
use mathlib.Core.Path.{◌≡◌, ap, subst}
use mathlib.Core.List.{List}
use Prim.Native.Nat.{ℕ, ◌*◌}
use native.Mathlib.Omega.{arith}
use lib.Dec.{ltb}
use lib.ListN.{length, take}
use lib.Seq.{take_all}
use borrow.Author.Tests.{le-ltb}
use Rattle.octets.specs.Lent.{overwrite}
use Rattle.octets.proofs.Choice.{choice}
use Rattle.octets.proofs.Overwrite.{take-overwrite-front}
use Rattle.telnet.specs.Event.{payload_limit}
use Rattle.env.specs.Variable.{Variable}
use Rattle.env.specs.Read.{Reading, says, not_read, reading_of}
use Rattle.env.specs.Numbers.{record_width, packed, recorded, variables_held}
use Rattle.octets.specs.Part.{part}
use Rattle.env.proofs.Holding.{held-recorded, length-recorded}
use Rattle.env.proofs.Short.{Fitting, reading-fitting}
use Rattle.env.proofs.Sound.{Reads, reads}
use Rattle.refusal.specs.declared.Refusal.{Refusal}
use Rattle.env_delivery.specs.declared.Payload.{Payload}
use Rattle.env_delivery.specs.Promise.{payload_read, Delivery, delivery, delivered}
use Rattle.env_delivery.specs.Theorems.{ReadIsHeld, RoomSuffices}

-- a delivery whose answer, where it is a reading, means that reading
abbrev Means : Reading → Delivery → Type 0
Means r d =
    (first count used : ℕ) → d.answer ≡ Ok (payload_read first count used) → r ≡ says first (variables_held (take used d.bytes) (take (record_width * count) d.numbers))

refused-means : (r : Reading) (k : Refusal) (bytes numbers : List ℕ) → Means r (delivery (Err k) bytes numbers)
refused-means r k bytes numbers first count used e = let z : ◌≡◌ {A = ℕ} 0 1 = cc in absurd (omega arith)

-- what is packed and recorded at the front of buffer and list is held by the front
front-held : (vs : List Variable) (bytes numbers : List ℕ) (count used : ℕ) → length vs ≡ count → length (packed vs) ≡ used
    → variables_held (take used (overwrite bytes 0 (packed vs))) (take (record_width * count) (overwrite numbers 0 (recorded 0 vs))) ≡ vs
unfolding part
front-held vs bytes numbers count used c u =
    let k : record_width * count ≡ length (recorded 0 vs) = omega (arith, length-recorded 0 vs) in
    rw (k, ← u, take-overwrite-front bytes (packed vs), take-overwrite-front numbers (recorded 0 vs))
    (held-recorded (packed vs) 0 vs (take_all (length (packed vs)) (packed vs) (omega arith)))

said-means : (f : ℕ) (vs : List Variable) (bytes numbers : List ℕ)
    → Means (says f vs) (delivery (Ok (payload_read f (length vs) (length (packed vs)))) (overwrite bytes 0 (packed vs)) (overwrite numbers 0 (recorded 0 vs)))
said-means f vs bytes numbers first count used e =
    let p : payload_read f (length vs) (length (packed vs)) ≡ payload_read first count used = cc in
    let g = ap (λ (p : Payload). p.first) p in
    let c = ap (λ (p : Payload). p.count) p in
    let u = ap (λ (p : Payload). p.used) p in
    rw (front-held vs bytes numbers count used c u) (ap (λ n. says n vs) g)

delivered-means : (r : Reading) (bytes numbers : List ℕ) → Means r (delivered r bytes numbers)
unfolding delivered
delivered-means (not_read e) bytes numbers = refused-means (not_read e) e bytes numbers
delivered-means (says f vs) bytes numbers =
    choice (Means (says f vs)) (ltb (length bytes) (length (packed vs))) (λ _. refused-means (says f vs) _ bytes numbers) λ _.
    choice (Means (says f vs)) (ltb (length numbers) (length (recorded 0 vs))) (λ _. refused-means (says f vs) _ bytes numbers) λ _.
    said-means f vs bytes numbers

pub read-is-held : ReadIsHeld
read-is-held payload bytes numbers = delivered-means (reading_of payload) bytes numbers

pub room-suffices : RoomSuffices
unfolding delivered
room-suffices payload bytes numbers first vs b n e =
    let few : Reads (says first vs) = subst Reads e (reads payload) in
    let short : Fitting payload_limit (says first vs) = subst (Fitting payload_limit) e (reading-fitting payload) in
    rw (
      e,
      le-ltb (length bytes) (length (packed vs)) (omega arith),
      le-ltb (length numbers) (length (recorded 0 vs)) (omega (arith, length-recorded 0 vs, few.sound.few)),
    )
