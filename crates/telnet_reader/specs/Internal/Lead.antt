-- Where the bytes that an event carries begin, in the terms of places: what a private function of this crate answers.
-- No public promise rests on this definition; `proofs/Carried.antt` has the laws that join it to what is at a
-- place.
use Rattle.std.specs.Prelude.{ℕ}
use Rattle.telnet.specs.declared.Kind.{Kind}
use Rattle.telnet.specs.declared.Kind.TheVariants.{Data, Command, Negotiation, Subnegotiation}

-- how many bytes come before those that an event carries
abbrev pub lead_in : Kind → ℕ
lead_in Data = 0
lead_in (Command c) = 0
lead_in (Negotiation v o) = 0
lead_in (Subnegotiation o) = 3
