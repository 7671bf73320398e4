-- What a stage tells: its fault, and how many payload bytes it keeps.
use Rattle.std.specs.Prelude.{ℕ, min, Option, None, Some}
use Rattle.telnet.specs.Event.{payload_limit}
use Rattle.telnet_fragments.specs.declared.Stage.{Stage}
use Rattle.telnet_fragments.specs.declared.Stage.TheVariants.{Data, IacSeen, Choosing, Opening, Payload, Closing, Failed}
use Rattle.telnet_fragments.specs.Promise.{fault_refusal}
use Rattle.refusal.specs.declared.Refusal.{Refusal}

-- how many payload bytes a stage keeps, of n
abbrev pub held_count : Stage → (n : ℕ) → ℕ
held_count Data n = 0
held_count IacSeen n = 0
held_count (Choosing v) n = 0
held_count Opening n = 0
held_count (Payload o) n = min n payload_limit
held_count (Closing o) n = min n payload_limit
held_count (Failed f) n = 0

-- what a stage failed by, if it has failed
abbrev pub fault_of : Stage → Option Refusal
fault_of Data = None
fault_of IacSeen = None
fault_of (Choosing v) = None
fault_of Opening = None
fault_of (Payload o) = None
fault_of (Closing o) = None
fault_of (Failed f) = Some (fault_refusal f)
