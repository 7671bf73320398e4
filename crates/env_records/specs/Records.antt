-- What the functions over a list of variable records answer.
use Rattle.std.specs.Prelude.{ℕ, List, [], get_or}
use Rattle.env.specs.declared.VariableRecord.{VariableRecord}
use Rattle.env.specs.Numbers.{record_in, records_of}

-- the record of a place that a list does not have
abbrev pub blank : VariableRecord
blank = record_in []

-- record i of those that numbers hold, from 0 on
abbrev pub record_at : List ℕ → ℕ → VariableRecord
record_at numbers i = get_or (records_of numbers) i blank
