-- What the program `explain` prints (change request No. 1): "Its program reads, as the listing does, the 8-byte server
-- seed, the table after its two-byte big-endian length and the payload, each cut where input ends, and prints one line:
-- the reason in these words, or REFUSED n."
use Rattle.std.specs.Prelude.{ℕ, List, ◌++◌, ltb, length, take, drop, if◌then◌else◌, Result, Ok, Err}
use Rattle.octets.specs.Ascii.{ascii}
use Rattle.octets.specs.Decimal.{decimal}
use Rattle.show_input.specs.Cut.{announced_in, left_after}
use Rattle.password_check.specs.Gives.{seed_length}
use Rattle.refusal.specs.declared.Refusal.{Refusal}
use Rattle.refusal.specs.Refusal.{number}
use Rattle.signon.specs.declared.Reason.{Reason}
use Rattle.signon.specs.Reason.{words_of, explain_of}

-- how many bytes may come (specification, the end of "Worked lines of the line", of the listing)
abbrev pub limit : ℕ
limit = 65536

-- a line
abbrev pub line_of : Result Reason Refusal → List ℕ
line_of (Ok r) = words_of r ++ ascii "\n"
line_of (Err e) = ascii "REFUSED " ++ decimal (number e) ++ ascii "\n"

-- the explanation of an input: its first eight bytes, the table that is announced after them, and the rest
abbrev pub explained : (input : List ℕ) → Result Reason Refusal
explained input = explain_of (take seed_length input) (announced_in (drop seed_length input)) (left_after (drop seed_length input))

-- what is printed for an input
unfoldable pub printed : (input : List ℕ) → List ℕ
printed input = if ltb limit (length input) then ascii "TOO LONG\n" else line_of (explained input)
