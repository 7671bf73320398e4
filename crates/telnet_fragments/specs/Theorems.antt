-- What holds of every list of calls, and of each call (change request No. 2), over the calls as they were made and
-- answered. `reading` is the whole reading of `telnet`.
use Rattle.std.specs.Prelude.{◌≡◌, ◌↔◌, ◌⊎◌, Bool, true, false, not, List, [], ◌∷◌, ℕ, ◌+◌, ◌≤◌, ◌<◌, min, eqb, length, take, Option, None, Some, Result}
use Rattle.telnet.specs.Event.{Event, run, command, negotiation, subnegotiation, payload_limit}
use Rattle.telnet.specs.Whole.{Mode, data', Ending, well, refusal, Reading, reads, reading, reading_from, step_byte, stops}
use Rattle.telnet_fragments.specs.declared.Fault.{Fault}
use Rattle.telnet_fragments.specs.declared.Stage.{Stage}
use Rattle.telnet_fragments.specs.declared.Stage.TheVariants.{Data, IacSeen, Choosing, Opening, Payload, Closing, Failed}
use Rattle.telnet_fragments.specs.Call.{has_failed, rested, call_limit}
use Rattle.telnet_fragments.specs.Promise.{fault_refusal, fresh_reader, seen, room_needed, closes, ClosedAs}
use Rattle.telnet_fragments.specs.Joined.{joined}
use Rattle.telnet_fragments.specs.Chain.{Made, Promised, found, left_in, gave, gave_all, took_all, last_reader, last_kept, end_mode, Chain}
use Rattle.octets.specs.Lent.{outcome}
use Rattle.refusal.specs.declared.Refusal.{Refusal}
use Rattle.refusal.specs.declared.Refusal.TheVariants.{CutShort, NoRoom}
use Rattle.refusal.specs.Refusal.{cut_short, number}

-- "From fresh or reset, .. data, commands and subnegotiations in their order and the end state equal the whole reading
-- of the bytes taken, with adjacent runs joined."
abbrev pub TakesTheStream : Type 0
TakesTheStream = (kept bs : List ℕ) (cs : List Made) → Chain fresh_reader kept bs cs
    → reads (joined (gave_all cs)) (stops (end_mode kept cs)).ending ≡ reading (take (took_all cs) bs)

-- where the whole reading is after some bytes
unfoldable pub mode_after : Mode → List ℕ → Mode
mode_after m [] = m
mode_after m (b ∷ bs) = mode_after (step_byte m b).mode bs

-- The end state in full: the mode of the whole reading after the bytes taken, its run given out.
abbrev pub EndsInItsMode : Type 0
EndsInItsMode = (kept bs : List ℕ) (cs : List Made) → Chain fresh_reader kept bs cs
    → end_mode kept cs ≡ rested (mode_after (data' []) (take (took_all cs) bs))

-- in the midst of a command or subnegotiation
unfoldable pub is_waiting : Stage → Bool
is_waiting Data = false
is_waiting IacSeen = true
is_waiting (Choosing v) = true
is_waiting Opening = true
is_waiting (Payload o) = true
is_waiting (Closing o) = true
is_waiting (Failed f) = false

-- How calls stand that began fresh, by how the whole reading of the bytes taken ends: at rest exactly where it ends
-- well; waiting exactly "where the whole reading refuses with 1"; and with a fault exactly where it refuses by that
-- fault. Closing answers as it ends: "only a closing call gives 1; at rest closing gives end".
pub record Closes (bs : List ℕ) (cs : List Made) : Type 0 where
  pub at_rest : ((last_reader fresh_reader cs).stage ≡ Data) ↔ ((reading (take (took_all cs) bs)).ending ≡ well)
  pub waiting : (is_waiting (last_reader fresh_reader cs).stage ≡ true) ↔ ((reading (take (took_all cs) bs)).ending ≡ refusal CutShort)
  pub fault : (f : Fault) → ((last_reader fresh_reader cs).stage ≡ Failed f) ↔ ((reading (take (took_all cs) bs)).ending ≡ refusal (fault_refusal f))
  pub closing : (c : Result (Unit {0}) Refusal) → ClosedAs (last_reader fresh_reader cs) c → c ≡ closes (reading (take (took_all cs) bs)).ending

abbrev pub ClosesAlike : Type 0
ClosesAlike = (kept bs : List ℕ) (cs : List Made) → Chain fresh_reader kept bs cs → Closes bs cs

-- no command and no subnegotiation is among them
unfoldable pub only_data : List Event → Bool
only_data [] = true
only_data (run r ∷ es) = only_data es
only_data (command c ∷ es) = false
only_data (negotiation v o ∷ es) = false
only_data (subnegotiation o p ∷ es) = false

-- refused otherwise than by ending too soon
unfoldable pub is_fault : Ending → Bool
is_fault well = false
is_fault (refusal e) = not (eqb (number e) cut_short)

-- nothing is completed and no fault is met
abbrev pub Unbroken : Reading → Type 0
Unbroken r = (only_data r.events ≡ true) × (is_fault r.ending ≡ false)

-- Where a call ends, and what it gives, from any mode without a fault.
pub record Ends (c : Made) : Type 0 where
  -- it gives what is read of the bytes that it takes: "the data before, that event if any";
  pub gives : reads (gave c) (stops (left_in c)).ending ≡ reading_from (found c) (take c.answer.taken c.fragment)
  -- "A call ends at the first command or subnegotiation completed", or at the first fault: fewer bytes are unbroken;
  pub first : (n : ℕ) → n < c.answer.taken → Unbroken (reading_from (found c) (take n c.fragment))
  -- else "at the fragment's end, or after 1,024 bytes of it".
  pub limit : c.answer.kind ≡ None → c.answer.refusal ≡ None → c.answer.taken ≡ min call_limit (length c.fragment)
  pub within : c.answer.taken ≤ min call_limit (length c.fragment)
  -- What it gives fits the room that it needs.
  pub fits : c.answer.length + c.answer.payload ≤ room_needed

-- the array's type gives it 1,024 bytes
abbrev pub EndsThere : Type 0
EndsThere = (c : Made) → Promised c → room_needed ≤ length c.room → has_failed (found c) ≡ false → length c.kept ≡ payload_limit → Ends c

-- A call that is given a byte takes one, so that every stream is taken to its end or to its fault.
abbrev pub TakesSome : Type 0
TakesSome = (c : Made) → Promised c → room_needed ≤ length c.room → has_failed (found c) ≡ false → 0 < length c.fragment → 0 < c.answer.taken

-- a call's refusal, from whatever mode
pub record Numbered (c : Made) : Type 0 where
  -- "Refusals: 4 only for lent room under 2,048 bytes";
  pub short : (c.answer.refusal ≡ Some NoRoom) ↔ (length c.room < room_needed)
  -- "the call that meets 2, 3 or 6 .. gives its number";
  pub fault : room_needed ≤ length c.room → (f : Fault)
      → (c.answer.refusal ≡ Some (fault_refusal f)) ↔ ((reading_from (found c) (take c.answer.taken c.fragment)).ending ≡ refusal (fault_refusal f))
  -- there is no other, and "no event" comes with one.
  pub enough : room_needed ≤ length c.room → (c.answer.refusal ≡ None) ⊎ (((f : Fault) × (c.answer.refusal ≡ Some (fault_refusal f))) × (c.answer.kind ≡ None))

abbrev pub NumbersGiven : Type 0
NumbersGiven = (c : Made) → Promised c → Numbered c

-- a call that takes nothing and answers a refusal: reader, array and room are as they were
pub record Idle (c : Made) (answers : Option Refusal) : Type 0 where
  pub answered : c.answer ≡ record { reader = c.reader; refusal = answers; taken = 0; length = 0; kind = None; payload = 0 }
  pub kept : c.keeps ≡ c.kept
  pub room : c.left ≡ c.room

-- "later calls take nothing and answer that number until reset", and a refused one changes nothing.
pub record Stays (c : Made) : Type 0 where
  pub refused : length c.room < room_needed → Idle c (Some NoRoom)
  pub faulted : room_needed ≤ length c.room → (f : Fault) → c.reader.stage ≡ Failed f → Idle c (Some (fault_refusal f))

abbrev pub StaysAsItWas : Type 0
StaysAsItWas = (c : Made) → Promised c → Stays c

-- the call that follows some calls
abbrev pub Follows : (kept : List ℕ) → List Made → Made → Type 0
Follows kept cs c = (c.reader ≡ last_reader fresh_reader cs) × (c.kept ≡ last_kept kept cs) × Promised c

-- Two lists of calls gave the same, close alike, and go on alike.
pub record Alike (kept₁ kept₂ : List ℕ) (cs₁ cs₂ : List Made) : Type 0 where
  pub gave-alike : joined (gave_all cs₁) ≡ joined (gave_all cs₂)
  pub close-alike : (c₁ c₂ : Result (Unit {0}) Refusal) → ClosedAs (last_reader fresh_reader cs₁) c₁ → ClosedAs (last_reader fresh_reader cs₂) c₂ → c₁ ≡ c₂
  pub go-on-alike : (c₁ c₂ : Made) → Follows kept₁ cs₁ c₁ → Follows kept₂ cs₂ c₂ → c₁.fragment ≡ c₂.fragment → c₁.room ≡ c₂.room
      → outcome (seen c₁.answer c₁.keeps) c₁.left ≡ outcome (seen c₂.answer c₂.keeps) c₂.left

-- "however cut": where two lists of calls took equally many bytes of one stream
abbrev pub HoweverCut : Type 0
HoweverCut = (kept₁ kept₂ bs : List ℕ) (cs₁ cs₂ : List Made) → Chain fresh_reader kept₁ bs cs₁ → Chain fresh_reader kept₂ bs cs₂
    → took_all cs₁ ≡ took_all cs₂ → Alike kept₁ kept₂ cs₁ cs₂
