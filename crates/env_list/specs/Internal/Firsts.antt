-- What the private functions of the reader find and set. No public promise rests on these definitions.
use Rattle.std.specs.Prelude.{◌≡◌, Result, Ok, Err, ℕ, zero, suc, ◌≤◌, List, [], ◌∷◌, ◌++◌, length, drop}
use Rattle.octets.specs.Lent.{outcome}
use Rattle.env.specs.declared.VariableRecord.{VariableRecord}
use Rattle.env_records.specs.Records.{record_at}
use Rattle.env_delivery.specs.declared.Payload.{Payload}
use Rattle.refusal.specs.declared.Refusal.{Refusal}
use Rattle.env_list.specs.Lists.{listing}
use Rattle.env_list.specs.Reading.{read_records}

-- the first n records that a list of numbers holds, in their order
unfoldable pub first_records : List ℕ → ℕ → List VariableRecord
first_records numbers zero = []
first_records numbers (suc n) = first_records numbers n ++ record_at numbers n ∷ []

-- how many variables an answer tells of
unfoldable pub count_of : Result Payload Refusal → ℕ
count_of (Ok p) = p.count
count_of (Err e) = 0

-- an answer, a buffer and numbers as they are left: for every list of `room` records, replacing its first `count_of
-- answer` by those of `numbers` gives `read_records`
abbrev pub Numbered : (payload bytes : List ℕ) → ℕ → Result Payload Refusal → (left numbers : List ℕ) → Type 0
Numbered payload bytes room answer left numbers =
    (list : List VariableRecord) → length list ≡ room
    → (count_of answer ≤ room)
    × (listing (outcome answer left) (first_records numbers (count_of answer) ++ drop (count_of answer) list) ≡ read_records payload bytes list)
