-- A byte's turn: what it makes of a reader's stage and count, and what is to be done with it. `proofs/Turning.antt` joins
-- turns to the steps of the whole reading (`telnet`, `Whole.step_byte`).
use Rattle.std.specs.Prelude.{ℕ, eqb, ltb, if◌then◌else◌, None, Some}
use Rattle.telnet.specs.declared.Lead.{Lead}
use Rattle.telnet.specs.declared.Lead.TheVariants.{Faulty, Opens, Negotiates, Simple}
use Rattle.telnet.specs.declared.Kind.TheVariants.{Command, Negotiation, Subnegotiation}
use Rattle.telnet.specs.Event.{lead, iac, se, payload_limit}
use Rattle.telnet_fragments.specs.declared.Fault.TheVariants.{Undoubled, TooLong, BadCommand}
use Rattle.telnet_fragments.specs.declared.Stage.{Stage}
use Rattle.telnet_fragments.specs.declared.Stage.TheVariants.{Data, IacSeen, Choosing, Opening, Payload, Closing, Failed}
use Rattle.telnet_stage.specs.declared.Act.{Act}
use Rattle.telnet_stage.specs.declared.Act.TheVariants.{Waits, Gives, Keeps, Stops}
use Rattle.telnet_stage.specs.declared.Turn.{Turn}

abbrev pub turns : Stage → (count : ℕ) → Act → Turn
turns s n a = record { stage = s; count = n; act = a }

-- a byte after a 255 in data, by what it begins
unfoldable pub leads : Lead → (count b : ℕ) → Turn
leads Faulty n b = turns (Failed BadCommand) n (Stops None)
leads Opens n b = turns Opening n Waits
leads (Negotiates v) n b = turns (Choosing v) n Waits
leads Simple n b = turns Data n (Stops (Some (Command b)))

unfoldable pub after_iac : (count b : ℕ) → Turn
after_iac n b = if eqb b iac then turns Data n Gives else leads (lead b) n b

-- one more payload byte
unfoldable pub grows : (option count : ℕ) → Turn
grows o n = if ltb n payload_limit then turns (Payload o) n Keeps else turns (Failed TooLong) n (Stops None)

-- a byte after a 255 in a payload
unfoldable pub closes : (option count b : ℕ) → Turn
closes o n b =
    if eqb b iac then grows o n else
    if eqb b se then turns Data n (Stops (Some (Subnegotiation o))) else
    turns (Failed Undoubled) n (Stops None)

unfoldable pub turn_of : Stage → (count b : ℕ) → Turn
turn_of Data n b = if eqb b iac then turns IacSeen n Waits else turns Data n Gives
turn_of IacSeen n b = after_iac n b
turn_of (Choosing v) n b = turns Data n (Stops (Some (Negotiation v b)))
turn_of Opening n b = turns (Payload b) 0 Waits
turn_of (Payload o) n b = if eqb b iac then turns (Closing o) n Waits else grows o n
turn_of (Closing o) n b = closes o n b
turn_of (Failed f) n b = turns (Failed f) n (Stops None)
