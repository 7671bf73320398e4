-- What the writer answers, and what it leaves in the buffer that it is lent: for every input and room, with the
-- refusals in the specification's order: 20, 27, 21, 24, 25, 3, each over the whole list before the next, and 4 last.
use Rattle.std.specs.Prelude.{ℕ, not, List, Result, Err, if◌then◌else◌}
use Rattle.env.specs.Variable.{is_first}
use Rattle.env.specs.Write.{Objection, none, against, objection, payload_of}
use Rattle.env.specs.Numbers.{variables_held, placed}
use Rattle.refusal.specs.declared.Refusal.{Refusal}
use Rattle.refusal.specs.declared.Refusal.TheVariants.{NotIsOrInfo, BadVariableRecord}
use Rattle.refusal.specs.Written.{written_into}
use Rattle.octets.specs.Lent.{Outcome, outcome}

-- a payload, written where nothing is held against it
unfoldable pub put : Objection → (payload out : List ℕ) → Outcome (Result ℕ Refusal)
put (against e) payload out = outcome (Err e) out
put none payload out = written_into payload out

-- a first byte and the variables that records have over a buffer, written
unfoldable pub write_into : ℕ → (bytes numbers out : List ℕ) → Outcome (Result ℕ Refusal)
write_into first bytes numbers out =
    if not (is_first first) then outcome (Err NotIsOrInfo) out else
    if not (placed bytes numbers) then outcome (Err BadVariableRecord) out else
    put (objection first (variables_held bytes numbers)) (payload_of first (variables_held bytes numbers)) out
