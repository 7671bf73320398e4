-- What the functions of `telnet_feed` answer, and what they leave of the room, of the reader and of the array that are
-- lent to them.
use Rattle.std.specs.Prelude.{◌≡◌, Bool, true, false, ◌||◌, ℕ, List, [], ◌∷◌, ◌++◌, ltb, length, take, if◌then◌else◌, Option, None, Some, Result, Ok, Err}
use Rattle.telnet.specs.declared.Kind.{Kind}
use Rattle.telnet.specs.Event.{Event, event, kind, carried_bytes}
use Rattle.telnet.specs.Whole.{Mode, data', iac_seen, choosing, opening, payload, closing, failed, Ending, well, refusal, stops}
use Rattle.telnet_fragments.specs.declared.Fault.{Fault}
use Rattle.telnet_fragments.specs.declared.Fault.TheVariants.{Undoubled, TooLong, BadCommand}
use Rattle.telnet_fragments.specs.declared.Stage.{Stage}
use Rattle.telnet_fragments.specs.declared.Stage.TheVariants.{Data, IacSeen, Choosing, Opening, Payload, Closing, Failed}
use Rattle.telnet_fragments.specs.declared.Reader.{Reader}
use Rattle.telnet_fragments.specs.declared.Taken.{Taken}
use Rattle.telnet_fragments.specs.Call.{Call, has_failed, called, refusal_of}
use Rattle.octets.specs.Lent.{Outcome, outcome, overwrite}
use Rattle.refusal.specs.declared.Refusal.{Refusal}
use Rattle.refusal.specs.declared.Refusal.TheVariants.{Undoubled as UndoubledIac, PayloadTooLong, NoRoom, BadCommand as NoCommand}
use Rattle.refusal.specs.Refusal.{number}

-- "2, 3 or 6"
abbrev pub fault_refusal : Fault → Refusal
fault_refusal Undoubled = UndoubledIac
fault_refusal TooLong = PayloadTooLong
fault_refusal BadCommand = NoCommand

abbrev pub fault_number : Fault → ℕ
fault_number f = number (fault_refusal f)

-- the mode of the whole reading that a reader is in, by its stage, how many payload bytes it has, and the array that
-- they are kept in; a count past the array's end counts all of it
unfoldable pub standing : Stage → (count : ℕ) (kept : List ℕ) → Mode
standing Data n p = data' []
standing IacSeen n p = iac_seen []
standing (Choosing v) n p = choosing v
standing Opening n p = opening
standing (Payload o) n p = payload o (take n p)
standing (Closing o) n p = closing o (take n p)
standing (Failed f) n p = failed (fault_refusal f)

-- the same by the reader and its array
abbrev pub mode_of : Reader → (kept : List ℕ) → Mode
mode_of r kept = standing r.stage r.count kept

abbrev pub fresh_reader : Reader
fresh_reader = record { stage = Data; count = 0 }

-- an answer, with the mode for the reader
pub record Seen : Type 0 where
  pub mode : Mode
  pub refused : Option Refusal
  pub taken : ℕ
  pub length : ℕ
  pub kind : Option Kind
  pub payload : ℕ

abbrev pub sees : Mode → Option Refusal → (taken length : ℕ) → Option Kind → (payload : ℕ) → Seen
sees m e t l k p = record { mode = m; refused = e; taken = t; length = l; kind = k; payload = p }

abbrev pub seen : Taken → (kept : List ℕ) → Seen
seen t kept = sees (mode_of t.reader kept) t.refusal t.taken t.length t.kind t.payload

-- the event of a kind, if there is one, with its payload
unfoldable pub happened : Option Kind → (payload : List ℕ) → List Event
happened None p = []
happened (Some k) p = event k p ∷ []

-- the kind of the event that a call ended at, and what it carries
unfoldable pub kind_of : List Event → Option Kind
kind_of [] = None
kind_of (e ∷ es) = Some (kind e)

unfoldable pub carried_of : List Event → List ℕ
carried_of [] = []
carried_of (e ∷ es) = carried_bytes e

-- a call delivered: its data at the front of the room, "its payload right after the data"
unfoldable pub delivered : Call → (room : List ℕ) → Outcome Seen
delivered c room =
    outcome (sees c.mode (refusal_of c.mode) c.taken (length c.run) (kind_of c.event) (length (carried_of c.event)))
    (overwrite room 0 (c.run ++ carried_of c.event))

abbrev pub room_needed : ℕ
room_needed = 2048

-- "4 only for lent room under 2,048 bytes, tested first"
unfoldable pub feed_of : Mode → (fragment room : List ℕ) → Outcome Seen
feed_of m bs room =
    if ltb (length room) room_needed then outcome (sees m (Some NoRoom) 0 0 None 0) room
    else delivered (called m bs) room

-- whether a call takes nothing whatever it is given: it is refused, or a fault was met before
unfoldable pub is_idle : Mode → (room : List ℕ) → Bool
is_idle m room = ltb (length room) room_needed || has_failed m

-- the payload that a mode has so far
unfoldable pub payload_of : Mode → List ℕ
payload_of (data' r) = []
payload_of (iac_seen r) = []
payload_of (choosing v) = []
payload_of opening = []
payload_of (payload o p) = p
payload_of (closing o p) = p
payload_of (failed e) = []

-- What a call hands back of its state beside the mode. An idle one hands back the reader and all of the array as given.
-- After any other the reader's count is that of the payload bytes, 0 where there is no payload, and past the count the
-- array is free.
abbrev pub HandsBack : (idle : Bool) → Reader → (kept : List ℕ) → Reader → (keeps : List ℕ) → Type 0
HandsBack true r kept r' keeps = (r' ≡ r) × (keeps ≡ kept)
HandsBack false r kept r' keeps = r'.count ≡ length (payload_of (mode_of r' keeps))

-- A call with a reader, its array, a fragment and a room: what it answers, and leaves in the array and in the room.
abbrev pub Fed : Reader → (kept fragment room : List ℕ) → Taken → (keeps left : List ℕ) → Type 0
Fed r kept bs room t keeps left =
    (outcome (seen t keeps) left ≡ feed_of (mode_of r kept) bs room)
    × HandsBack (is_idle (mode_of r kept) room) r kept t.reader keeps

unfoldable pub closes : Ending → Result (Unit {0}) Refusal
closes well = Ok tt
closes (refusal e) = Err e

-- closing: as the whole reading ends where the bytes end
unfoldable pub close_of : Mode → Result (Unit {0}) Refusal
close_of m = closes (stops m).ending

-- whatever the array holds
abbrev pub ClosedAs : Reader → Result (Unit {0}) Refusal → Type 0
ClosedAs r c = (kept : List ℕ) → c ≡ close_of (mode_of r kept)
