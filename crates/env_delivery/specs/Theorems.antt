-- What the reader's answer means, and that room for the largest payload is room for every one. The proofs are in
-- `proofs/Meaning.antt`.
use Rattle.std.specs.Prelude.{◌≡◌, List, ℕ, ◌+◌, Ok, ◌*◌, ◌≤◌, length, take}
use Rattle.telnet.specs.Event.{payload_limit}
use Rattle.env.specs.Variable.{Variable}
use Rattle.env.specs.Read.{reading_of, says}
use Rattle.env.specs.Numbers.{record_width, list_limit, packed, variables_held}
use Rattle.env_delivery.specs.Promise.{payload_read, read_into}

-- Where the reader answers that a payload is read, it says that first byte and the variables that the bytes and records
-- it counts hold.
abbrev pub ReadIsHeld : Type 0
ReadIsHeld =
    (payload bytes numbers : List ℕ) (first count used : ℕ)
    → (read_into payload bytes numbers).answer ≡ Ok (payload_read first count used)
    → reading_of payload
    ≡ says first (variables_held (take used (read_into payload bytes numbers).bytes) (take (record_width * count) (read_into payload bytes numbers).numbers))

-- Room for 1,024 bytes and 64 records is always enough: what a payload says is then read.
abbrev pub RoomSuffices : Type 0
RoomSuffices =
    (payload bytes numbers : List ℕ) (first : ℕ) (vs : List Variable) → payload_limit ≤ length bytes → list_limit ≤ length numbers
    → reading_of payload ≡ says first vs → (read_into payload bytes numbers).answer ≡ Ok (payload_read first (length vs) (length (packed vs)))
