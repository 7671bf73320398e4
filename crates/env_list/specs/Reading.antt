-- What the reader into a list of records answers, and what it leaves in the buffer and the list that it is lent: for
-- every input and room, with the refusals in the specification's order, 4 last.
use Rattle.std.specs.Prelude.{ℕ, List, ◌++◌, Result, Ok, Err, ltb, length, drop, if◌then◌else◌}
use Rattle.env.specs.declared.VariableRecord.{VariableRecord}
use Rattle.env_delivery.specs.declared.Payload.{Payload}
use Rattle.env_delivery.specs.Promise.{payload_read}
use Rattle.env.specs.Read.{Reading, says, not_read, reading_of}
use Rattle.env.specs.Numbers.{records_of, packed, recorded}
use Rattle.refusal.specs.declared.Refusal.{Refusal}
use Rattle.refusal.specs.declared.Refusal.TheVariants.{NoRoom}
use Rattle.octets.specs.Lent.{Outcome, outcome, overwrite}
use Rattle.env_list.specs.Lists.{Listing, listing}

-- a reading, with names and values put into the buffer and their records in front of the list; the rest of both is as
-- it was
unfoldable pub listed : Reading → List ℕ → List VariableRecord → Listing (Outcome (Result Payload Refusal))
listed (not_read e) bytes list = listing (outcome (Err e) bytes) list
listed (says first vs) bytes list =
    if ltb (length bytes) (length (packed vs)) then listing (outcome (Err NoRoom) bytes) list else
    if ltb (length list) (length vs) then listing (outcome (Err NoRoom) bytes) list else
    listing (outcome (Ok (payload_read first (length vs) (length (packed vs)))) (overwrite bytes 0 (packed vs)))
    (records_of (recorded 0 vs) ++ drop (length vs) list)

-- a payload, read
abbrev pub read_records : (payload bytes : List ℕ) → List VariableRecord → Listing (Outcome (Result Payload Refusal))
read_records payload bytes list = listed (reading_of payload) bytes list
