-- What the listing program prints (specification, the end of "Worked lines of the line": "reads standard input, at most
-- 65,536 bytes (else it prints only TOO LONG)"), and how long that can be. `proofs/Room.antt` has the proof.
use Rattle.std.specs.Prelude.{List, ℕ, ◌+◌, ◌*◌, ◌≤◌, ltb, length, if◌then◌else◌}
use Rattle.octets.specs.Ascii.{ascii}
use Rattle.octets.specs.Bytes.{Bytes}
use Rattle.telnet_listing.specs.Listing.{listing}

-- how many bytes may come
abbrev pub limit : ℕ
limit = 65536

-- what is printed for an input
unfoldable pub printed : List ℕ → List ℕ
printed bs = if ltb limit (length bs) then ascii "TOO LONG\n" else listing bs

-- room for it: no event's line is longer than 13 times the bytes of the event, and the line that ends the listing has
-- at most 16 bytes
abbrev pub room : ℕ
room = 13 * limit + 16

-- What is printed for bytes fits that room.
abbrev pub Fits : Type 0
Fits = (bs : List ℕ) → Bytes bs → length (printed bs) ≤ room
