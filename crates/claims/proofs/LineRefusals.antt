-- Events and records of the line, and one side of an option: they refuse by their own numbers, and leave all as it was.
-- Assumes nothing.
use mathlib.Core.Path.{refl}
use mathlib.Core.Bool.{Bool, true, false, not}
use mathlib.Core.List.{List, [], ◌∷◌}
use Prim.Native.Nat.{ℕ}
use lib.Dec.{T, eqb, ltb}
use lib.ListN.{length, drop}
use Rattle.octets.proofs.Choice.{choice}
use Rattle.octets.proofs.Promise.{front-either}
use Rattle.refusal.specs.Refusal.{number, no_room}
use Rattle.refusal.specs.RefusedBy.{RefusalNumber, no_refusal, refused_by, by_number, refusal_number, number_or_0}
use Rattle.refusal.specs.Written.{written_into}
use Rattle.telnet.specs.Event.{Event, run, command, negotiation, subnegotiation, carried_bytes, lead, payload_limit, iac, se}
use Rattle.telnet.specs.declared.Lead.{Lead}
use Rattle.telnet.specs.declared.Lead.TheVariants.{Faulty, Opens, Negotiates, Simple}
use Rattle.telnet.specs.Write.{writable, written}
use Rattle.telnet.specs.Read.{Front, no_event, found, refused, event_of}
use Rattle.telnet.proofs.Refusals.{FrontBy, front_by}
use Rattle.telnet.specs.Whole.{Ending, well, refusal, Mode, data', iac_seen, choosing, opening, payload, closing, failed}
use Rattle.telnet.specs.Whole.{Step, leads, grown, step_byte, stops, reading_from, reading, ended}
use Rattle.telnet.specs.Record.{Gathered, complete, no_record, is_end_of_record, with_event, gathered, record_of}
use Rattle.telnet_reader.specs.Promise as Reader
use Rattle.telnet_reader.specs.Promise.{look_at, read_at}
use Rattle.telnet_records.specs.Promise.{answer_no_record, kept, record_at}
use Rattle.telnet_writer.specs.Promise.{unwritable, write_of}
use Rattle.option_rules.specs.declared.Command.{Command}
use Rattle.option_rules.specs.declared.Command.TheVariants.{On as on, Off as off}
use Rattle.option_rules.specs.declared.Side.{Side}
use Rattle.option_rules.specs.declared.Side.TheVariants.{Off, On, WantOff, WantOffThenOn, WantOn, WantOnThenOff}
use Rattle.option_rules.specs.Table.{Row, table, untouched, carried, rules_of, on_receive, on_request}
use Rattle.claims.specs.Refusals.{one_of, Refuses, by_receipt}
use Rattle.claims.proofs.OneOf.{more}
use Rattle.claims.specs.Demand1.{line, RefusesBy, RefusesInto}

-- what is at the front of bytes is refused by one of the line's numbers
abbrev pub ByLine : Front → Type 0
ByLine = FrontBy (λ why. T (one_of line (number why)))

pub by-line : (bs : List ℕ) → ByLine (event_of bs)
unfolding one_of
by-line = front_by (λ why. T (one_of line (number why))) tt tt tt tt

-- what refuses by one of some numbers refuses by one of more
by-more : (m : ℕ) (ms : List ℕ) {L : Type 0} (before after : L) (r : RefusalNumber) → Refuses ms before after r
    → Refuses (m ∷ ms) before after r
by-more m ms before after no_refusal t = tt
by-more m ms before after (refused_by n) t = (more m ms n t.0, t.1)

pub answered-by : (at : ℕ) (f : Front) → ByLine f → RefusesBy line (refusal_number (Reader.answered at f))
unfolding Reader.answered
answered-by at no_event t = tt
answered-by at (found e) t = tt
answered-by at (refused why) t = (t, refl)

pub looks : (s : List ℕ) (at : ℕ) → RefusesBy (5 ∷ line) (refusal_number (look_at s at))
unfolding look_at one_of
looks s at =
    let f = event_of (drop at s) in
    choice (λ (a : Reader.Answer). RefusesBy (5 ∷ line) (refusal_number a)) (ltb (length s) at) (λ _. (tt, refl))
    (λ _. by-more 5 line _ _ (refusal_number (Reader.answered at f)) (answered-by at f (by-line (drop at s))))

pub delivered-by : (at : ℕ) (f : Front) (out : List ℕ) → ByLine f
    → RefusesInto (4 ∷ line) refusal_number out (Reader.delivered at f out)
unfolding Reader.delivered Reader.answered one_of
delivered-by at no_event out t = tt
delivered-by at (refused why) out t = (more 4 line (number why) t, refl)
delivered-by at (found e) out t =
    front-either _ _ (carried_bytes e) out (RefusesInto (4 ∷ line) refusal_number out) (λ _. (tt, refl)) (λ _. tt)

pub reads : (s : List ℕ) (at : ℕ) (out : List ℕ) → RefusesInto (5 ∷ 4 ∷ line) refusal_number out (read_at s at out)
unfolding read_at one_of
reads s at out =
    let f = event_of (drop at s) in
    let by = delivered-by at f out (by-line (drop at s)) in
    choice (RefusesInto (5 ∷ 4 ∷ line) refusal_number out) (ltb (length s) at) (λ _. (tt, refl))
    (λ _. by-more 5 (4 ∷ line) _ _ (refusal_number (Reader.delivered at f out).answer) by)

-- bytes written to the front of a buffer
pub written-by : (ms : List ℕ) → T (one_of ms no_room) → (bytes out : List ℕ) → RefusesInto ms refusal_number out (written_into bytes out)
written-by ms four bytes out = front-either _ _ bytes out (RefusesInto ms refusal_number out) (λ _. (four, refl)) (λ _. tt)

pub writes : (e : Event) (out : List ℕ) → RefusesInto (7 ∷ 3 ∷ 4 ∷ []) refusal_number out (write_of e out)
unfolding write_of unwritable one_of
writes e out =
    choice (RefusesInto (7 ∷ 3 ∷ 4 ∷ []) refusal_number out) (not (writable e)) (λ _. (unwritten e, refl))
    (λ _. written-by (7 ∷ 3 ∷ 4 ∷ []) tt (written e) out)
  where
    unwritten : (e : Event) → T (one_of (7 ∷ 3 ∷ 4 ∷ []) (number (unwritable e)))
    unwritten (run d) = tt
    unwritten (command c) = tt
    unwritten (negotiation v o) = tt
    unwritten (subnegotiation o p) = tt

pub lists : (words out : List ℕ) → RefusesInto (4 ∷ []) refusal_number out (written_into words out)
unfolding one_of
lists words out = written-by (4 ∷ []) tt words out

-- how a reading ends
abbrev EndingBy : Ending → Type 0
EndingBy well = Unit {0}
EndingBy (refusal why) = T (one_of line (number why))

abbrev ModeBy : Mode → Type 0
ModeBy (data' r) = Unit {0}
ModeBy (iac_seen r) = Unit {0}
ModeBy (choosing v) = Unit {0}
ModeBy opening = Unit {0}
ModeBy (payload o p) = Unit {0}
ModeBy (closing o p) = Unit {0}
ModeBy (failed why) = T (one_of line (number why))

abbrev StepBy : Step → Type 0
StepBy s = ModeBy s.mode

leads-by : (es : List Event) (l : Lead) (c : ℕ) → StepBy (leads es l c)
unfolding leads one_of
leads-by es Faulty c = tt
leads-by es Opens c = tt
leads-by es (Negotiates v) c = tt
leads-by es Simple c = tt

grown-by : (o : ℕ) (p : List ℕ) (b : ℕ) → StepBy (grown o p b)
unfolding grown one_of
grown-by o p b = choice StepBy (ltb (length p) payload_limit) (λ _. tt) (λ _. tt)

step_by : (m : Mode) (b : ℕ) → ModeBy m → StepBy (step_byte m b)
unfolding step_byte one_of
step_by (data' r) b t = choice StepBy (eqb b iac) (λ _. tt) (λ _. tt)
step_by (iac_seen r) b t = choice StepBy (eqb b iac) (λ _. tt) (λ _. leads-by (ended r) (lead b) b)
step_by (choosing v) b t = tt
step_by opening b t = tt
step_by (payload o p) b t = choice StepBy (eqb b iac) (λ _. tt) (λ _. grown-by o p b)
step_by (closing o p) b t = choice StepBy (eqb b iac) (λ _. grown-by o p b) (λ _. choice StepBy (eqb b se) (λ _. tt) (λ _. tt))
step_by (failed n) b t = t

stops-by : (m : Mode) → ModeBy m → EndingBy (stops m).ending
unfolding stops one_of
stops-by (data' r) t = tt
stops-by (iac_seen r) t = tt
stops-by (choosing v) t = tt
stops-by opening t = tt
stops-by (payload o p) t = tt
stops-by (closing o p) t = tt
stops-by (failed n) t = t

ending-by : (m : Mode) (bs : List ℕ) → ModeBy m → EndingBy (reading_from m bs).ending
unfolding reading_from
ending-by m [] t = stops-by m t
ending-by m (b ∷ bs) t = ending-by (step_byte m b).mode bs (step_by m b t)

abbrev pub GatheredBy : Gathered → Type 0
GatheredBy (complete d n) = Unit {0}
GatheredBy (no_record how) = EndingBy how

with-by : (e : Event) (g : Gathered) → GatheredBy g → GatheredBy (with_event e g)
unfolding with_event
with-by e (complete d n) t = tt
with-by e (no_record how) t = t

gathered-by : (es : List Event) (how : Ending) → EndingBy how → GatheredBy (gathered es how)
unfolding gathered
gathered-by [] how t = t
gathered-by (e ∷ es) how t = choice GatheredBy (is_end_of_record e) (λ _. tt) (λ _. with-by e (gathered es how) (gathered-by es how t))

pub record-by : (bs : List ℕ) → GatheredBy (record_of bs)
unfolding record_of reading
record-by bs = gathered-by (reading bs).events (reading bs).ending (ending-by (data' []) bs tt)

pub kept_by : (at : ℕ) (g : Gathered) (out : List ℕ) → GatheredBy g
    → RefusesInto (4 ∷ line) refusal_number out (kept at g out)
unfolding kept answer_no_record one_of
kept_by at (no_record well) out t = tt
kept_by at (no_record (refusal why)) out t = (more 4 line (number why) t, refl)
kept_by at (complete d n) out t =
    front-either _ _ d out (RefusesInto (4 ∷ line) refusal_number out) (λ _. (tt, refl)) (λ _. tt)

pub reads-records : (s : List ℕ) (at : ℕ) (out : List ℕ) → RefusesInto (5 ∷ 4 ∷ line) refusal_number out (record_at s at out)
unfolding record_at one_of
reads-records s at out =
    let g = record_of (drop at s) in
    choice (RefusesInto (5 ∷ 4 ∷ line) refusal_number out) (ltb (length s) at) (λ _. (tt, refl))
    (λ _. by-more 5 (4 ∷ line) _ _ (refusal_number (kept at g out).answer) (kept_by at g out (record-by (drop at s))))

-- one side of an option, by the table or as one that is not carried
abbrev ReceivesBy : (Side → Row) → Type 0
ReceivesBy rules =
    (s : Side) (accept : Bool) (c : Command) → Refuses [] s (on_receive rules s accept c).side (by_receipt (number_or_0 (on_receive rules s accept c).refusal))

abbrev RequestsBy : (Side → Row) → Type 0
RequestsBy rules = (s : Side) (c : Command) → Refuses (10 ∷ 11 ∷ 12 ∷ 13 ∷ []) s (on_request rules s c).side (by_number (number_or_0 (on_request rules s c).refusal))

table-receives : ReceivesBy table
table-receives Off true on = tt
table-receives Off false on = tt
table-receives On accept on = tt
table-receives WantOff accept on = tt
table-receives WantOffThenOn accept on = tt
table-receives WantOn accept on = tt
table-receives WantOnThenOff accept on = tt
table-receives Off accept off = tt
table-receives On accept off = tt
table-receives WantOff accept off = tt
table-receives WantOffThenOn accept off = tt
table-receives WantOn accept off = tt
table-receives WantOnThenOff accept off = tt

table-requests : RequestsBy table
unfolding one_of
table-requests Off on = tt
table-requests Off off = (tt, refl)
table-requests On on = (tt, refl)
table-requests On off = tt
table-requests WantOff on = tt
table-requests WantOff off = (tt, refl)
table-requests WantOffThenOn on = (tt, refl)
table-requests WantOffThenOn off = tt
table-requests WantOn on = (tt, refl)
table-requests WantOn off = tt
table-requests WantOnThenOff on = tt
table-requests WantOnThenOff off = (tt, refl)

untouched-receives : ReceivesBy untouched
untouched-receives s accept on = tt
untouched-receives s accept off = tt

untouched-requests : RequestsBy untouched
unfolding one_of
untouched-requests s on = (tt, refl)
untouched-requests s off = (tt, refl)

pub receives : (o : ℕ) → ReceivesBy (rules_of o)
unfolding rules_of
receives o = choice ReceivesBy (carried o) (λ _. table-receives) (λ _. untouched-receives)

pub requests : (o : ℕ) → RequestsBy (rules_of o)
unfolding rules_of
requests o = choice RequestsBy (carried o) (λ _. table-requests) (λ _. untouched-requests)
