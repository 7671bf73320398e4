-- What private functions answer. No public promise rests on these definitions.
use Rattle.std.specs.Prelude.{ℕ, min, Option, None, Some}
use Rattle.telnet.specs.declared.Kind.{Kind}
use Rattle.telnet.specs.declared.Kind.TheVariants.{Data, Command, Negotiation, Subnegotiation}
use Rattle.telnet.specs.Event.{payload_limit}
use Rattle.telnet_fragments.specs.declared.Reader.{Reader}
use Rattle.telnet_fragments.specs.declared.Taken.{Taken}
use Rattle.refusal.specs.declared.Refusal.{Refusal}

abbrev pub taken : Reader → Option Refusal → (taken length : ℕ) → Option Kind → (payload : ℕ) → Taken
taken r e t l k p = record { reader = r; refusal = e; taken = t; length = l; kind = k; payload = p }

-- how many bytes an event of a kind carries, if there is one, of n that are kept
abbrev pub payload_length : Option Kind → (n : ℕ) → ℕ
payload_length None n = 0
payload_length (Some Data) n = min n payload_limit
payload_length (Some (Command c)) n = 0
payload_length (Some (Negotiation v o)) n = 0
payload_length (Some (Subnegotiation o)) n = min n payload_limit
