-- What is proved of the reader's promise. The proof is in `proofs/Meaning.antt`.
use Rattle.std.specs.Prelude.{◌≡◌, Ok, ℕ, List, map, take}
use Rattle.env.specs.Numbers.{variable_of}
use Rattle.env.specs.Read.{reading_of, says}
use Rattle.env.specs.declared.VariableRecord.{VariableRecord}
use Rattle.env_delivery.specs.Promise.{payload_read}
use Rattle.env_list.specs.Reading.{read_records}

-- Where a payload is read, it says the variables that the records have over the buffer: as many as the answer tells of,
-- from the front of the list.
abbrev pub ListsTheVariables : Type 0
ListsTheVariables =
    (payload bytes : List ℕ) (list : List VariableRecord) (first count used : ℕ)
    → (read_records payload bytes list).answer.answer ≡ Ok (payload_read first count used)
    → reading_of payload
    ≡ says first (map (variable_of (read_records payload bytes list).answer.lent) (take count (read_records payload bytes list).records))
