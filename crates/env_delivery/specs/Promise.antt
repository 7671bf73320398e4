-- What the reader answers, and what it leaves in the buffer and the list that it is lent: for every input and room,
-- with the refusals in the specification's order, 4 last.
use Rattle.std.specs.Prelude.{ℕ, ◌/◌, List, ◌∷◌, Result, Ok, Err, ltb, length, if◌then◌else◌}
use Rattle.env_delivery.specs.declared.Payload.{Payload}
use Rattle.env.specs.Variable.{repeated}
use Rattle.env.specs.Fields.{row_of}
use Rattle.env.specs.Read.{Reading, says, not_read, distinct, variables_of, reading_of}
use Rattle.telnet.specs.Event.{payload_limit}
use Rattle.env.specs.Numbers.{record_width, packed, recorded, variables_held}
use Rattle.refusal.specs.declared.Refusal.{Refusal}
use Rattle.refusal.specs.declared.Refusal.TheVariants.{PayloadTooLong, NoRoom, RepeatedVariable}
use Rattle.octets.specs.Lent.{overwrite}

abbrev pub payload_read : (first count used : ℕ) → Payload
payload_read f n m = record { first = f; count = n; used = m }

-- an answer with a buffer and a list of records as they are left
pub record Delivery : Type 0 where
  pub answer : Result Payload Refusal
  pub bytes : List ℕ
  pub numbers : List ℕ

abbrev pub delivery : Result Payload Refusal → (b n : List ℕ) → Delivery
delivery a b n = record { answer = a; bytes = b; numbers = n }

-- a reading, with names and values put into the buffer and their places into the list
unfoldable pub delivered : Reading → (bytes numbers : List ℕ) → Delivery
delivered (not_read e) bytes numbers = delivery (Err e) bytes numbers
delivered (says first vs) bytes numbers =
    if ltb (length bytes) (length (packed vs)) then delivery (Err NoRoom) bytes numbers else
    if ltb (length numbers) (length (recorded 0 vs)) then delivery (Err NoRoom) bytes numbers else
    delivery (Ok (payload_read first (length vs) (length (packed vs)))) (overwrite bytes 0 (packed vs)) (overwrite numbers 0 (recorded 0 vs))

-- a payload, read
abbrev pub read_into : (payload bytes numbers : List ℕ) → Delivery
read_into payload bytes numbers = delivered (reading_of payload) bytes numbers

-- what comes after the first byte of a payload, read
unfoldable pub read_after : ℕ → (rest bytes numbers : List ℕ) → Delivery
read_after first rest bytes numbers =
    if ltb payload_limit (length (first ∷ rest)) then delivery (Err PayloadTooLong) bytes numbers
    else delivered (distinct first (variables_of (row_of rest))) bytes numbers

-- texts and records that were read, handed over where there is room for both
unfoldable pub hand_over : ℕ → (texts records bytes numbers : List ℕ) → Delivery
hand_over first texts records bytes numbers =
    if ltb (length bytes) (length texts) then delivery (Err NoRoom) bytes numbers else
    if ltb (length numbers) (length records) then delivery (Err NoRoom) bytes numbers else
    delivery (Ok (payload_read first (length records / record_width) (length texts))) (overwrite bytes 0 texts) (overwrite numbers 0 records)

-- handed over unless a variable is there twice
unfoldable pub deliver_read : ℕ → (texts records bytes numbers : List ℕ) → Delivery
deliver_read first texts records bytes numbers =
    if repeated (variables_held texts records) then delivery (Err RepeatedVariable) bytes numbers else hand_over first texts records bytes numbers
