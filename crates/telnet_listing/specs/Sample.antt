-- The worked stream of the specification, at the end of "Worked lines of the line", and its listing.
-- `proofs/Sample.antt` has the proof.
use Rattle.std.specs.Prelude.{◌≡◌, List, [], ◌∷◌, ℕ}
use Rattle.octets.specs.Ascii.{ascii}
use Rattle.telnet_listing.specs.Listing.{listing}

-- FF FD 18 41 FF FF 42 FF EF
abbrev pub stream : List ℕ
stream = 255 ∷ 253 ∷ 24 ∷ 65 ∷ 255 ∷ 255 ∷ 66 ∷ 255 ∷ 239 ∷ []

-- its four lines
abbrev pub sample : List ℕ
sample = ascii "0 DO 24\n3 DATA 3\n7 EOR\n9 END\n"

abbrev pub Sample : Type 0
Sample = listing stream ≡ sample
