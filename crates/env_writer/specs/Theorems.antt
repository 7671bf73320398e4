-- What the writer's answer means. The proof is in `proofs/Meaning.antt`.
use Rattle.std.specs.Prelude.{◌≡◌, Ok, List, ℕ, ◌+◌, take}
use Rattle.env.specs.Read.{reading_of, says}
use Rattle.env.specs.Numbers.{variables_held}
use Rattle.env_writer.specs.Promise.{write_into}

-- Where the writer answers that it wrote n bytes, the first n of what was lent read as that first byte and the
-- variables that the records hold.
abbrev pub WroteReadsBack : Type 0
WroteReadsBack =
    (first : ℕ) (bytes numbers out : List ℕ) (n : ℕ) → (write_into first bytes numbers out).answer ≡ Ok n
    → reading_of (take n (write_into first bytes numbers out).lent) ≡ says first (variables_held bytes numbers)
