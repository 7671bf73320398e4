-- The owner's demand 1: "Every public entry point takes whatever bytes arrive, comes to an end, and refuses bad input
-- by a number from our list. A refusal leaves every lent buffer exactly as it was found." That it takes whatever
-- arrives and ends is the checker's own word: no entry point has a `requires`, and every function is proved to return.
-- What is said here is the second half, entry point by entry point, over the definitions that their promises equal: by
-- which of the specification's numbers each may refuse, and that it then leaves every buffer, list and state as it was.
-- The entry points of a gateway in C are on a page of their own, `Demand1C.antt`.
--
-- An entry point is a public function that can refuse. The others answer every input, and so have nothing to say here:
-- tests answer true or false (`option_rules::carried`, `names::is_name`, `password_check::gives_des` and their like);
-- `env_search::find` and `value_of` and `profile_tokens` answer absent, an empty part or zeros for what is not there;
-- `octets::put`, `octets_marked::put_marked` and `octets::put_decimal`, helpers of the core, answer false, or the place
-- that they were given, where there is no room, and write nothing then.
use Rattle.std.specs.Prelude.{ℕ, Bool, List, [], ◌∷◌, ◌++◌}
use Rattle.octets.specs.Lent.{Outcome}
use Rattle.refusal.specs.RefusedBy.{RefusalNumber, by_number, refusal_number, number_or_0}
use Rattle.refusal.specs.Written.{written_into}
use Rattle.telnet.specs.Event.{Event}
use Rattle.telnet_reader.specs.Promise.{look_at, read_at}
use Rattle.telnet_records.specs.Promise.{record_at}
use Rattle.telnet_writer.specs.Promise.{write_of}
use Rattle.telnet_fragments.specs.declared.Reader.{Reader}
use Rattle.telnet_fragments.specs.Chain.{Made, Promised}
use Rattle.option_rules.specs.declared.Command.{Command}
use Rattle.option_rules.specs.declared.Side.{Side}
use Rattle.option_rules.specs.Table.{rules_of, on_receive, on_request}
use Rattle.option_verbs.specs.declared.Whose.{Whose}
use Rattle.option_sides.specs.declared.Sides.{Sides}
use Rattle.option_sides.specs.Session.{received, requested}
use Rattle.option_line.specs.declared.Sent.{Sent}
use Rattle.option_line.specs.Line.{received_on, requested_on, heard_event, heard_on}
use Rattle.telnet.specs.declared.Verb.{Verb}
use Rattle.telnet.specs.declared.Kind.{Kind}
use Rattle.env.specs.declared.VariableRecord.{VariableRecord}
use Rattle.env_delivery.specs.Promise.{Delivery, read_into, read_after, deliver_read, hand_over}
use Rattle.env_list.specs.Reading.{read_records}
use Rattle.env_writer.specs.Promise.{write_into}
use Rattle.print_frame.specs.Frame.{frame_of}
use Rattle.print_ledger.specs.declared.Ledger.{Ledger}
use Rattle.print_ledger.specs.Ledger.{take_frame, complete_into}
use Rattle.profile.specs.Table.{table_of}
use Rattle.profile_table.specs.Answer.{checked, found_in}
use Rattle.password_des.specs.Answer.{des_token, des_substitute}
use Rattle.password_sha.specs.Answer.{sha_token, sha_substitute}
use Rattle.profile_maker.specs.Made.{Making}
use Rattle.profile_maker.specs.Promise.{make_into}
use Rattle.signon.specs.declared.Verdict.{Verdict}
use Rattle.signon.specs.Verdict.{answer_of}
use Rattle.signon.specs.Reason.{explain_of}
use Rattle.startup_record.specs.Promise.{respond_into}
use Rattle.claims.specs.Refusals.{Refuses, by_receipt, by_feed}

-- the numbers of "Refusal numbers", by subject: those of the line, of a payload, of a frame, of a table
abbrev pub line : List ℕ
line = 1 ∷ 2 ∷ 3 ∷ 6 ∷ []

abbrev pub payload : List ℕ
payload = 3 ∷ 20 ∷ 21 ∷ 22 ∷ 23 ∷ 24 ∷ 25 ∷ []

abbrev pub frame : List ℕ
frame = 40 ∷ 41 ∷ 42 ∷ 43 ∷ 44 ∷ 45 ∷ []

abbrev pub table : List ℕ
table = 30 ∷ 31 ∷ 32 ∷ []

-- by one of these numbers, where nothing is lent
abbrev pub RefusesBy : List ℕ → RefusalNumber → Type 0
RefusesBy numbers r = Refuses numbers {L = Unit {0}} tt tt r

-- an outcome: by one of these numbers, with the buffer as it was
abbrev pub RefusesInto : {A : Type 0} → List ℕ → (A → RefusalNumber) → List ℕ → Outcome A → Type 0
RefusesInto numbers of out o = Refuses numbers out o.lent (of o.answer)

-- a payload that is read: with buffer and list as they were
abbrev pub RefusesBoth : List ℕ → (bytes numbers : List ℕ) → Delivery → Type 0
RefusesBoth numbers bytes list d = Refuses numbers {L = List ℕ × List ℕ} (bytes, list) (d.bytes, d.numbers) (refusal_number d.answer)

-- a step of the sides with its command: by one of these numbers, with sides, line and place as they were
abbrev pub RefusesOnLine : List ℕ → (ℕ → RefusalNumber) → Sides → (line : List ℕ) (at : ℕ) → Outcome Sent → Type 0
RefusesOnLine numbers by s l at o =
    Refuses numbers {L = Sides × (List ℕ × ℕ)} (s, (l, at)) (o.answer.sides, (o.lent, o.answer.place)) (by (number_or_0 o.answer.refusal))

pub record Demand1 : Type 0 where
  -- events and records of the line: `look`, `read`, `read_record`, `write`
  pub look : (s : List ℕ) (at : ℕ) → RefusesBy (5 ∷ line) (refusal_number (look_at s at))
  pub read : (s : List ℕ) (at : ℕ) (out : List ℕ) → RefusesInto (5 ∷ 4 ∷ line) refusal_number out (read_at s at out)
  pub read_record : (s : List ℕ) (at : ℕ) (out : List ℕ) → RefusesInto (5 ∷ 4 ∷ line) refusal_number out (record_at s at out)
  pub write : (e : Event) (out : List ℕ) → RefusesInto (7 ∷ 3 ∷ 4 ∷ []) refusal_number out (write_of e out)
  -- a stream taken by fragments: `feed`; reader, array and room are as they were. `fresh`, `reset` and `close` refuse
  -- nothing: what closing answers is no refusal.
  pub feed : (c : Made) → Promised c
      → Refuses (4 ∷ []) {L = Reader × (List ℕ × List ℕ)} (c.reader, (c.kept, c.room)) (c.answer.reader, (c.keeps, c.left)) (by_feed (number_or_0 c.answer.refusal))
  -- the listing of a stream, or one line of it: `list`, `line`
  pub list : (words out : List ℕ) → RefusesInto (4 ∷ []) refusal_number out (written_into words out)
  -- one side of an option: a receipt refuses nothing, a request hands the state back
  pub receive : (o : ℕ) (s : Side) (accept : Bool) (c : Command) → Refuses [] s (on_receive (rules_of o) s accept c).side (by_receipt (number_or_0 (on_receive (rules_of o) s accept c).refusal))
  pub request : (o : ℕ) (s : Side) (c : Command) → Refuses (10 ∷ 11 ∷ 12 ∷ 13 ∷ []) s (on_request (rules_of o) s c).side (by_number (number_or_0 (on_request (rules_of o) s c).refusal))
  -- and so do the ten sides of a session
  pub session_receive : (s : Sides) (v : Verb) (o : ℕ) (accept : Bool) → Refuses [] s (received s v o accept).sides (by_receipt (number_or_0 (received s v o accept).refusal))
  pub session_request : (s : Sides) (w : Whose) (o : ℕ) (c : Command)
      → Refuses (10 ∷ 11 ∷ 12 ∷ 13 ∷ []) s (requested s w o c).sides (by_number (number_or_0 (requested s w o c).refusal))
  -- with the command put on the line, also where it finds no room or its place is past the end
  pub line_receive : (s : Sides) (v : Verb) (o : ℕ) (accept : Bool) (l : List ℕ) (at : ℕ)
      → RefusesOnLine (5 ∷ 4 ∷ []) by_receipt s l at (received_on s v o accept l at)
  pub line_request : (s : Sides) (w : Whose) (o : ℕ) (c : Command) (l : List ℕ) (at : ℕ)
      → RefusesOnLine (5 ∷ 4 ∷ 10 ∷ 11 ∷ 12 ∷ 13 ∷ []) by_number s l at (requested_on s w o c l at)
  -- with an event that was read
  pub line_hear_event : (s : Sides) (k : Kind) (accept : Bool) (l : List ℕ) (at : ℕ) → RefusesOnLine (5 ∷ 4 ∷ []) by_receipt s l at (heard_event s k accept l at)
  -- and where what is heard cannot be read
  pub line_hear : (s : Sides) (heard : List ℕ) (from : ℕ) (accept : Bool) (l : List ℕ) (at : ℕ)
      → RefusesOnLine (5 ∷ 4 ∷ line) by_receipt s l at (heard_on s heard from accept l at)
  -- environment strings: `env_reader::read`, `env_list::read_records`, `env_writer::write`, and what `read` is made of:
  -- `env_variables::read_variables`, `env_delivery::deliver`, `env_delivery::hand_over`
  pub read_payload : (p bytes numbers : List ℕ) → RefusesBoth (4 ∷ payload) bytes numbers (read_into p bytes numbers)
  pub read_records : (p bytes : List ℕ) (list : List VariableRecord)
      → Refuses (4 ∷ payload) {L = List ℕ × List VariableRecord} (bytes, list) ((read_records p bytes list).answer.lent, (read_records p bytes list).records) (refusal_number (read_records p bytes list).answer.answer)
  pub write_payload : (first : ℕ) (bytes numbers out : List ℕ)
      → RefusesInto (20 ∷ 27 ∷ 21 ∷ 24 ∷ 25 ∷ 3 ∷ 4 ∷ []) refusal_number out (write_into first bytes numbers out)
  pub read_variables : (first : ℕ) (rest bytes numbers : List ℕ) → RefusesBoth (4 ∷ payload) bytes numbers (read_after first rest bytes numbers)
  pub deliver : (first : ℕ) (texts records bytes numbers : List ℕ) → RefusesBoth (25 ∷ 4 ∷ []) bytes numbers (deliver_read first texts records bytes numbers)
  pub hand_over : (first : ℕ) (texts records bytes numbers : List ℕ) → RefusesBoth (4 ∷ []) bytes numbers (hand_over first texts records bytes numbers)
  -- profile tables: `check`, `find`, `make_record`
  pub check : (t : List ℕ) → RefusesBy table (refusal_number (checked (table_of t)))
  pub find : (t name : List ℕ) → RefusesBy table (refusal_number (found_in name (table_of t)))
  pub make : (m : Making) (out : List ℕ) → RefusesInto (33 ∷ 34 ∷ 4 ∷ []) refusal_number out (make_into m out)
  -- tokens and substitutes: `des_token`, `sha_token`, `des_substitute`, `sha_substitute`
  pub des_token : (name password : List ℕ) → RefusesBy (33 ∷ 34 ∷ []) (refusal_number (des_token name password))
  pub sha_token : (name password : List ℕ) → RefusesBy (33 ∷ 34 ∷ []) (refusal_number (sha_token name password))
  pub des_substitute : (token : ℕ) (name : List ℕ) (server client : ℕ) → RefusesBy (33 ∷ []) (refusal_number (des_substitute token name server client))
  pub sha_substitute : (token name : List ℕ) (server client : ℕ) → RefusesBy (33 ∷ []) (refusal_number (sha_substitute token name server client))
  -- sign-on and start-up: `verdict`, `explain`, `response`
  pub verdict : (seed t p : List ℕ) → RefusesBy (35 ∷ table ++ payload) (refusal_number (answer_of seed t p))
  pub explain : (seed t p : List ℕ) → RefusesBy (35 ∷ table ++ payload) (refusal_number (explain_of seed t p))
  pub response : (fault : Bool) (v : Verdict) (system device out : List ℕ) → RefusesInto (36 ∷ 4 ∷ []) refusal_number out (respond_into fault v system device out)
  -- printing: `read_frame`, `take_frame`, `complete`; a refused frame or completion leaves the ledger as it was
  pub read_frame : (f : List ℕ) → RefusesBy frame (refusal_number (frame_of f))
  pub take_frame : (l : Ledger) (f : List ℕ) → Refuses (52 ∷ 50 ∷ frame) l (take_frame l f).ledger (refusal_number (take_frame l f).receipt)
  pub complete : (l : Ledger) (out : List ℕ)
      → Refuses (51 ∷ 4 ∷ []) {L = Ledger × List ℕ} (l, out) ((complete_into l out).answer.ledger, (complete_into l out).lent) (refusal_number (complete_into l out).answer.completion)
