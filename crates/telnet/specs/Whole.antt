-- The whole reading of a stream: its events in order, and how it ended. It takes one step for each byte, so that a
-- stream may be cut anywhere; `Theorems.Unrolled` says that it is the reading of one event after another.
use Rattle.std.specs.Prelude.{ℕ, List, [], ◌∷◌, ◌++◌, eqb, ltb, length, if◌then◌else◌}
use Rattle.telnet.specs.declared.Verb.{Verb}
use Rattle.telnet.specs.declared.Lead.{Lead}
use Rattle.telnet.specs.declared.Lead.TheVariants.{Faulty, Opens, Negotiates, Simple}
use Rattle.telnet.specs.Event.{Event, run, command, negotiation, subnegotiation, lead, iac, se, payload_limit}
use Rattle.refusal.specs.declared.Refusal.{Refusal}
use Rattle.refusal.specs.declared.Refusal.TheVariants.{CutShort, Undoubled, PayloadTooLong, BadCommand}

-- how a reading ended: at the end of the bytes, or by a refusal
pub data Ending : Type 0 where
  well : Ending
  refusal : Refusal → Ending

pub record Reading : Type 0 where
  pub events : List Event
  pub ending : Ending

abbrev pub reads : List Event → Ending → Reading
reads es how = record { events = es; ending = how }

-- events in front of a reading
abbrev pub before : List Event → Reading → Reading
before es r = reads (es ++ r.events) r.ending

-- where a reader is between two bytes
pub data Mode : Type 0 where
  -- in data, with the run so far; after a 255, with the run before it
  data' iac_seen : List ℕ → Mode
  -- after 255 and an option command; after 255 250
  choosing : Verb → Mode
  opening : Mode
  -- in a payload, with its option and the payload so far; after a 255 there
  payload closing : ℕ → List ℕ → Mode
  -- refused
  failed : Refusal → Mode

-- a step: the events that it completes, and where the reader is then
pub record Step : Type 0 where
  pub completes : List Event
  pub mode : Mode

abbrev pub goes : List Event → Mode → Step
goes es m = record { completes = es; mode = m }

-- the run that ends, if it has data
unfoldable pub ended : List ℕ → List Event
ended [] = []
ended (d ∷ ds) = run (d ∷ ds) ∷ []

-- the byte c after a 255 that is not doubled, after the events es
unfoldable pub leads : List Event → Lead → ℕ → Step
leads es Faulty c = goes es (failed BadCommand)
leads es Opens c = goes es opening
leads es (Negotiates v) c = goes es (choosing v)
leads es Simple c = goes (es ++ command c ∷ []) (data' [])

-- one more payload byte, within the limit
unfoldable pub grown : (o : ℕ) → List ℕ → (b : ℕ) → Step
grown o p b = if ltb (length p) payload_limit then goes [] (payload o (p ++ b ∷ [])) else goes [] (failed PayloadTooLong)

unfoldable pub step_byte : Mode → ℕ → Step
step_byte (data' r) b = if eqb b iac then goes [] (iac_seen r) else goes [] (data' (r ++ b ∷ []))
step_byte (iac_seen r) b = if eqb b iac then goes [] (data' (r ++ b ∷ [])) else leads (ended r) (lead b) b
step_byte (choosing v) b = goes (negotiation v b ∷ []) (data' [])
step_byte opening b = goes [] (payload b [])
step_byte (payload o p) b = if eqb b iac then goes [] (closing o p) else grown o p b
step_byte (closing o p) b =
    if eqb b iac then grown o p b else
    if eqb b se then goes (subnegotiation o p ∷ []) (data' []) else
    goes [] (failed Undoubled)
step_byte (failed why) b = goes [] (failed why)

-- where the bytes end
unfoldable pub stops : Mode → Reading
stops (data' r) = reads (ended r) well
stops (iac_seen r) = reads (ended r) (refusal CutShort)
stops (choosing v) = reads [] (refusal CutShort)
stops opening = reads [] (refusal CutShort)
stops (payload o p) = reads [] (refusal CutShort)
stops (closing o p) = reads [] (refusal CutShort)
stops (failed why) = reads [] (refusal why)

-- the reading from a mode on: one step a byte
unfoldable pub reading_from : Mode → List ℕ → Reading
reading_from m [] = stops m
reading_from m (b ∷ bs) = before (step_byte m b).completes (reading_from (step_byte m b).mode bs)

-- the whole reading
unfoldable pub reading : List ℕ → Reading
reading bs = reading_from (data' []) bs
