-- Reading one event (specification, "Framing" and the framing part of "Refusal numbers").
use Rattle.std.specs.Prelude.{ℕ, List, [], ◌∷◌, eqb, ltb, length, drop, if◌then◌else◌}
use Rattle.telnet.specs.declared.Verb.{Verb}
use Rattle.telnet.specs.declared.Lead.{Lead}
use Rattle.telnet.specs.declared.Lead.TheVariants.{Faulty, Opens, Negotiates, Simple}
use Rattle.telnet.specs.Event.{Event, run, command, negotiation, subnegotiation, lead, iac, se, payload_limit}
use Rattle.telnet.specs.Write.{doubled}
use Rattle.refusal.specs.declared.Refusal.{Refusal}
use Rattle.refusal.specs.declared.Refusal.TheVariants.{CutShort, Undoubled, PayloadTooLong, BadCommand}

unfoldable mutual
  -- the longest stretch of data at the front, with each doubled 255 made one: it ends before a 255 that is not doubled
  pub data_run : List ℕ → List ℕ
  data_run [] = []
  data_run (b ∷ bs) = if eqb b iac then run_after_iac bs else b ∷ data_run bs

  -- the same after a 255
  pub run_after_iac : List ℕ → List ℕ
  run_after_iac [] = []
  run_after_iac (c ∷ bs) = if eqb c iac then c ∷ data_run bs else []

-- what is at the front: nothing, an event, or what is refused
pub data Front : Type 0 where
  no_event : Front
  found : Event → Front
  refused : Refusal → Front

-- after a payload: 255 240 closes the subnegotiation, 255 with another byte is refused
unfoldable pub closed : ℕ → List ℕ → List ℕ → Front
closed o p [] = refused CutShort
closed o p (x ∷ []) = refused CutShort
closed o p (x ∷ c ∷ rest) = if eqb c se then found (subnegotiation o p) else refused Undoubled

-- after 255 250: an option byte, then the payload, the longest stretch there
unfoldable pub after_sb : List ℕ → Front
after_sb [] = refused CutShort
after_sb (o ∷ bs) =
    if ltb payload_limit (length (data_run bs)) then refused PayloadTooLong
    else closed o (data_run bs) (drop (length (doubled (data_run bs))) bs)

-- after 255 and an option command: an option byte, raw
unfoldable pub after_verb : Verb → List ℕ → Front
after_verb v [] = refused CutShort
after_verb v (o ∷ bs) = found (negotiation v o)

-- by what the byte c after a 255 begins
unfoldable pub after_lead : Lead → ℕ → List ℕ → Front
after_lead Faulty c bs = refused BadCommand
after_lead Opens c bs = after_sb bs
after_lead (Negotiates v) c bs = after_verb v bs
after_lead Simple c bs = found (command c)

-- after a 255 that is not doubled
unfoldable pub after_iac : List ℕ → Front
after_iac [] = refused CutShort
after_iac (c ∷ bs) = after_lead (lead c) c bs

-- a run where there is data, else what is given
unfoldable pub run_or : List ℕ → Front → Front
run_or [] other = other
run_or (d ∷ ds) other = found (run (d ∷ ds))

-- the event at the front
unfoldable pub event_of : List ℕ → Front
event_of [] = no_event
event_of (b ∷ bs) = run_or (data_run (b ∷ bs)) (after_iac bs)
