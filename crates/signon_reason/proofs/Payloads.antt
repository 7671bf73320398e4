-- The reading of a payload into room for the largest: what it answers, and that what it read lies within the room.
-- Assumes nothing.
use Rattle.std.specs.Prelude.{Result, Ok, Err}
use mathlib.Core.Path.{◌≡◌, refl, sym, ap, subst, ◌∙◌}
use mathlib.Core.List.{List}
use Prim.Native.Nat.{ℕ, ◌*◌, ◌≤◌}
use native.Mathlib.Omega.{arith}
use lib.ListN.{take, replicate}
use Rattle.env.specs.Read.{Reading, says, not_read, reading_of}
use Rattle.env.specs.Numbers.{record_width, list_limit, variables_held}
use Rattle.env.proofs.Short.{Fitting, reading-fitting}
use Rattle.env.proofs.Sound.{Reads, reads}
use Rattle.refusal.specs.declared.Refusal.{Refusal}
use Rattle.env_delivery.specs.declared.Payload.{Payload}
use Rattle.env_delivery.specs.Promise.{delivery, delivered, read_into}
use Rattle.env_delivery.proofs.Meaning.{read-is-held, room-suffices}
use Rattle.telnet.specs.Event.{payload_limit}

-- room for every payload
abbrev pub room_bytes : List ℕ
room_bytes = replicate payload_limit 0

abbrev pub room_numbers : List ℕ
room_numbers = replicate list_limit 0

-- what an answer says of a payload: within the room, or refused
abbrev pub Within : List ℕ → Result Payload Refusal → Type 0
Within payload (Ok read) = (read.used ≤ payload_limit) × (record_width * read.count ≤ list_limit)
Within payload (Err e) = reading_of payload ≡ not_read e

within_by : (payload : List ℕ) (r : Reading) → reading_of payload ≡ r → Within payload (read_into payload room_bytes room_numbers).answer
unfolding delivered
within_by payload (says first vs) e =
    let few : Reads (says first vs) = subst Reads e (reads payload) in
    let short : Fitting payload_limit (says first vs) = subst (Fitting payload_limit) e (reading-fitting payload) in
    subst (Within payload) (sym (room-suffices payload room_bytes room_numbers first vs (omega arith) (omega arith) e)) (omega arith, omega (arith, few.sound.few))
within_by payload (not_read n) e = subst (Within payload) (sym (ap (λ r. (delivered r room_bytes room_numbers).answer) e)) e

module _ (payload : List ℕ) (a : Result Payload Refusal) (bytes numbers : List ℕ) (h : delivery a bytes numbers ≡ read_into payload room_bytes room_numbers) where
  pub within : (b : Result Payload Refusal) → a ≡ b → Within payload b
  within b e = subst (Within payload) (sym (ap (λ d. d.answer) h) ∙ e) (within_by payload (reading_of payload) refl)

  pub said : (read : Payload) → a ≡ Ok read
      → reading_of payload ≡ says read.first (variables_held (take read.used bytes) (take (record_width * read.count) numbers))
  said read e =
      rw (ap (λ d. d.bytes) h, ap (λ d. d.numbers) h) (read-is-held payload room_bytes room_numbers read.first read.count read.used (sym (ap (λ d. d.answer) h) ∙ e))
