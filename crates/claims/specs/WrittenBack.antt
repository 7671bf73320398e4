-- Read and written: the buffer and the records that the reader leaves of a payload, given to the writer, are that
-- payload again, byte for byte (change request No. 3; the writer's 4 is all that can still be refused).
use Rattle.std.specs.Prelude.{◌≡◌, List, ℕ, ◌*◌, take, Ok}
use Rattle.env.specs.Numbers.{record_width}
use Rattle.env_delivery.specs.declared.Payload.{Payload}
use Rattle.env_delivery.specs.Promise.{read_into}
use Rattle.env_writer.specs.Promise.{write_into}
use Rattle.refusal.specs.Written.{written_into}

abbrev pub ReadIsWrittenBack : Type 0
ReadIsWrittenBack =
    (payload bytes numbers out : List ℕ) (p : Payload) → (read_into payload bytes numbers).answer ≡ Ok p
    → write_into p.first (read_into payload bytes numbers).bytes (take (record_width * p.count) (read_into payload bytes numbers).numbers) out
    ≡ written_into payload out
