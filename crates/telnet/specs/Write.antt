-- Writing events (specification, "Framing", "The writer is the inverse"; RFC 854: "IAC .. must be doubled" as data; RFC
-- 855: and in parameters).
use Rattle.std.specs.Prelude.{ℕ, Bool, true, false, ◌&&◌, ◌||◌, List, [], ◌∷◌, ◌++◌, eqb, leb, length, if◌then◌else◌}
use Rattle.telnet.specs.Event.{Event, run, command, negotiation, subnegotiation, iac, sb, se, eor, code, payload_limit}

-- bytes as the line carries them: each 255 twice
unfoldable pub doubled : List ℕ → List ℕ
doubled [] = []
doubled (b ∷ bs) = if eqb b iac then b ∷ b ∷ doubled bs else b ∷ doubled bs

-- the bytes of an event
unfoldable pub written : Event → List ℕ
written (run bs) = doubled bs
written (command c) = iac ∷ c ∷ []
written (negotiation v o) = iac ∷ code v ∷ o ∷ []
written (subnegotiation o bs) = iac ∷ sb ∷ o ∷ (doubled bs ++ iac ∷ se ∷ [])

-- the bytes of a list of events
unfoldable pub written_all : List Event → List ℕ
written_all [] = []
written_all (e ∷ es) = written e ++ written_all es

-- 239, 241 to 249
unfoldable pub is_simple : ℕ → Bool
is_simple c = eqb c eor || (leb 241 c && leb c 249)

-- a run has data, a simple command is one, a payload keeps within its limit
unfoldable pub writable : Event → Bool
writable (run []) = false
writable (run (b ∷ bs)) = true
writable (command c) = is_simple c
writable (negotiation v o) = true
writable (subnegotiation o bs) = leb (length bs) payload_limit
