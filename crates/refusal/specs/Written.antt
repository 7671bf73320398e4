-- What a writer answers, and what it leaves in the buffer that it is lent.
use Rattle.std.specs.Prelude.{ℕ, List, Result, Ok, Err}
use Rattle.octets.specs.Lent.{Outcome}
use Rattle.octets.specs.Promise.{write_front}
use Rattle.refusal.specs.declared.Refusal.{Refusal}
use Rattle.refusal.specs.declared.Refusal.TheVariants.{NoRoom}

-- bytes written to the front of a buffer; where they do not fit, 4, and the buffer is as it was
abbrev pub written_into : (bytes out : List ℕ) → Outcome (Result ℕ Refusal)
written_into bytes out = write_front Ok (Err NoRoom) bytes out
