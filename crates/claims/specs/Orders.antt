-- The order of refusals (specification, "Refusal numbers", the paragraph "Order"): for each of its sentences, that the
-- number which comes first is told, whatever else is there. `Demand1.antt` says by which numbers each entry point may
-- refuse.
use Rattle.std.specs.Prelude.{◌≡◌, Bool, true, false, Ok, Err, List, [], ◌∷◌, ◌↔◌, ◌⊎◌, ℕ, ◌≤◌, ◌<◌, T, length}
use Rattle.refusal.specs.declared.Refusal.{Refusal}
use Rattle.refusal.specs.declared.Refusal.TheVariants.{PastTheEnd, NotIsOrInfo, NoVariable, TooManyVariables, RepeatedVariable, BadVariableRecord, PayloadTooLong, BadServerSeed, BadProfileName, BadPassword, RecordHeld, InboundFrame}
use Rattle.refusal.specs.RefusedBy.{RefusalNumber, no_refusal, refused_by, refusal_number, number_or_0}
use Rattle.names.specs.Name.{is_name}
use Rattle.telnet.specs.declared.Verb.{Verb}
use Rattle.telnet.specs.Event.{Event}
use Rattle.telnet.specs.Theorems as Telnet
use Rattle.telnet_reader.specs.Promise.{look_at, read_at}
use Rattle.telnet_records.specs.Promise.{record_at}
use Rattle.telnet_writer.specs.Promise.{write_of}
use Rattle.option_rules.specs.declared.Command.{Command}
use Rattle.option_verbs.specs.declared.Whose.{Whose}
use Rattle.option_sides.specs.declared.Sides.{Sides}
use Rattle.option_line.specs.Line.{received_on, requested_on, heard_on}
use Rattle.option_line.specs.Theorems.{by_request}
use Rattle.env.specs.declared.VariableRecord.{VariableRecord}
use Rattle.env.specs.Variable.{is_first, repeated}
use Rattle.env.specs.Read as Read
use Rattle.env.specs.Write.{payload_of, nameless}
use Rattle.env.specs.Numbers.{variables_held, placed}
use Rattle.env.specs.Theorems as Env
use Rattle.env_delivery.specs.Promise.{read_into}
use Rattle.env_list.specs.Reading.{read_records}
use Rattle.env_writer.specs.Promise.{write_into}
use Rattle.profile.specs.Profile.{Profile}
use Rattle.profile.specs.Table.{profiles, table_refused, table_of}
use Rattle.profile.specs.Theorems.{FirstRecordDecides}
use Rattle.profile_maker.specs.Made.{Making}
use Rattle.profile_maker.specs.Promise.{make_into}
use Rattle.password_des.specs.Answer.{des_token}
use Rattle.password_sha.specs.Sha.{is_password}
use Rattle.password_sha.specs.Answer.{sha_token}
use Rattle.signon.specs.declared.Verdict.{Verdict}
use Rattle.signon.specs.Verdict.{answer_of}
use Rattle.startup_record.specs.Promise.{respond_into}
use Rattle.print_frame.specs.declared.Direction.TheVariants.{Outbound, Inbound}
use Rattle.print_frame.specs.declared.Operation.TheVariants.{Print}
use Rattle.print_frame.specs.declared.Frame.{Frame}
use Rattle.print_frame.specs.Frame.{frame_of}
use Rattle.print_frame.specs.Theorems.{FrameIsItsSentence}
use Rattle.print_ledger.specs.declared.Ledger.{Ledger}
use Rattle.print_ledger.specs.Ledger.{take_frame, complete_into}
use Rattle.claims.specs.Refusals.{one_of}

-- "5 first": it is told exactly where a place is past the end, whatever else is there.
pub record FiveFirst : Type 0 where
  pub look : (s : List ℕ) (at : ℕ) → (look_at s at ≡ Err PastTheEnd) ↔ (length s < at)
  pub read : (s : List ℕ) (at : ℕ) (out : List ℕ) → ((read_at s at out).answer ≡ Err PastTheEnd) ↔ (length s < at)
  pub read_record : (s : List ℕ) (at : ℕ) (out : List ℕ) → ((record_at s at out).answer ≡ Err PastTheEnd) ↔ (length s < at)
  -- the place of an option command; either place, where one is heard
  pub request : (s : Sides) (w : Whose) (o : ℕ) (c : Command) (line : List ℕ) (at : ℕ)
      → (number_or_0 (requested_on s w o c line at).answer.refusal ≡ 5) ↔ (length line < at)
  pub receive : (s : Sides) (v : Verb) (o : ℕ) (accept : Bool) (line : List ℕ) (at : ℕ)
      → (number_or_0 (received_on s v o accept line at).answer.refusal ≡ 5) ↔ (length line < at)
  pub hear : (s : Sides) (heard : List ℕ) (from : ℕ) (accept : Bool) (line : List ℕ) (at : ℕ)
      → (number_or_0 (heard_on s heard from accept line at).answer.refusal ≡ 5) ↔ ((length line < at) ⊎ (length heard < from))

-- What a call refuses by, given what is lent to it: another number than 4 is told whatever the room, and where 4 is
-- told, nothing is refused with room enough.
pub record Last {L : Type 0} (roomy : ℕ → L → Type 0) (call : L → RefusalNumber) : Type 0 where
  pub others : (l m : L) (n : ℕ) → (n ≡ 4 → ⊥) → call l ≡ refused_by n → call m ≡ refused_by n
  pub enough : (l : L) → call l ≡ refused_by 4 → (room : ℕ) × ((m : L) → roomy room m → call m ≡ no_refusal)

-- a buffer, or two things that are lent
abbrev pub OneBuffer : (List ℕ → RefusalNumber) → Type 0
OneBuffer = Last (λ room out. room ≤ length out)

abbrev pub BufferAndList : {A : Type 0} → (List ℕ × List A → RefusalNumber) → Type 0
BufferAndList = Last (λ room l. (room ≤ length l.0) × (room ≤ length l.1))

-- "4 last": 51, 33, 34, 36, 7, 10 to 13 and every fault of an event, a list, a record or a payload come before it.
pub record FourLast : Type 0 where
  pub read : (s : List ℕ) (at : ℕ) → OneBuffer (λ out. refusal_number (read_at s at out).answer)
  pub read_record : (s : List ℕ) (at : ℕ) → OneBuffer (λ out. refusal_number (record_at s at out).answer)
  pub write : (e : Event) → OneBuffer (λ out. refusal_number (write_of e out).answer)
  pub request : (s : Sides) (w : Whose) (o : ℕ) (c : Command) (line : List ℕ) (at n : ℕ) → at ≤ length line → T (one_of (10 ∷ 11 ∷ 12 ∷ 13 ∷ []) n)
      → number_or_0 (by_request s w o c).refusal ≡ n → number_or_0 (requested_on s w o c line at).answer.refusal ≡ n
  pub read_payload : (p : List ℕ) → BufferAndList (λ l. refusal_number (read_into p l.0 l.1).answer)
  pub read_records : (p : List ℕ) → BufferAndList {A = VariableRecord} (λ l. refusal_number (read_records p l.0 l.1).answer.answer)
  pub write_payload : (first : ℕ) (bytes numbers : List ℕ) → OneBuffer (λ out. refusal_number (write_into first bytes numbers out).answer)
  pub make : (m : Making) → OneBuffer (λ out. refusal_number (make_into m out).answer)
  pub response : (fault : Bool) (v : Verdict) (system device : List ℕ) → OneBuffer (λ out. refusal_number (respond_into fault v system device out).answer)
  pub complete : (l : Ledger) → OneBuffer (λ out. refusal_number (complete_into l out).answer.completion)

-- what the writer refuses by
abbrev pub WriteRefuses : (first : ℕ) (bytes numbers out : List ℕ) (why : Refusal) → Type 0
WriteRefuses first bytes numbers out why = (write_into first bytes numbers out).answer ≡ Err why

-- "its writer gives 20 (asked for a first byte other than 0 or 2), 27, 21, 24, 25, 3, each over the whole list before
-- the next."
pub record WriterOrder (first : ℕ) (bytes numbers out : List ℕ) : Type 0 where
  pub twenty : (first ≡ 0 → ⊥) → (first ≡ 2 → ⊥) → WriteRefuses first bytes numbers out NotIsOrInfo
  pub bad_record : T (is_first first) → placed bytes numbers ≡ false → WriteRefuses first bytes numbers out BadVariableRecord
  pub no_name : T (is_first first) → T (placed bytes numbers) → T (nameless (variables_held bytes numbers)) → WriteRefuses first bytes numbers out NoVariable
  pub too_many : T (is_first first) → T (placed bytes numbers) → nameless (variables_held bytes numbers) ≡ false → 64 < length (variables_held bytes numbers)
      → WriteRefuses first bytes numbers out TooManyVariables
  pub twice : T (is_first first) → T (placed bytes numbers) → nameless (variables_held bytes numbers) ≡ false → length (variables_held bytes numbers) ≤ 64
      → T (repeated (variables_held bytes numbers)) → WriteRefuses first bytes numbers out RepeatedVariable
  pub too_long : T (is_first first) → T (placed bytes numbers) → nameless (variables_held bytes numbers) ≡ false → length (variables_held bytes numbers) ≤ 64
      → repeated (variables_held bytes numbers) ≡ false → 1024 < length (payload_of first (variables_held bytes numbers)) → WriteRefuses first bytes numbers out PayloadTooLong

-- "Frames: 40 to 45 ascending, then 52, then 50": whatever the ledger holds.
pub record LedgerOrder : Type 0 where
  pub frame : (l : Ledger) (f : List ℕ) (why : Refusal) → frame_of f ≡ Err why → (take_frame l f).receipt ≡ Err why
  pub inbound : (l : Ledger) (f : List ℕ) (x : Frame) → frame_of f ≡ Ok x → x.direction ≡ Inbound → (take_frame l f).receipt ≡ Err InboundFrame
  pub held : (l : Ledger) (f : List ℕ) (x : Frame) → l.held ≡ true → frame_of f ≡ Ok x → x.direction ≡ Outbound → x.operation ≡ Print
      → (take_frame l f).receipt ≡ Err RecordHeld

-- "Verdicts: 35, 30 to 32, 3, 20 to 25": by the seed, then by the table, then by the payload.
pub record VerdictOrder (seed table payload : List ℕ) : Type 0 where
  pub by_seed : (length seed ≡ 8 → ⊥) → answer_of seed table payload ≡ Err BadServerSeed
  pub by_table : length seed ≡ 8 → (why : Refusal) → table_of table ≡ table_refused why → answer_of seed table payload ≡ Err why
  pub by_payload : length seed ≡ 8 → (ps : List Profile) → table_of table ≡ profiles ps → (why : Refusal) → Read.reading_of payload ≡ Read.not_read why
      → answer_of seed table payload ≡ Err why

-- "Token maker: 33 before 34": whatever the password, and so for the tokens by themselves.
pub record MakerOrder : Type 0 where
  pub name : (m : Making) (out : List ℕ) → is_name 10 m.name ≡ false → (make_into m out).answer ≡ Err BadProfileName
  pub password : (m : Making) (out : List ℕ) → T (is_name 10 m.name) → is_password m.password ≡ false → (make_into m out).answer ≡ Err BadPassword
  pub des_name : (name password : List ℕ) → is_name 10 name ≡ false → des_token name password ≡ Err BadProfileName
  pub des_password : (name password : List ℕ) → T (is_name 10 name) → is_name 10 password ≡ false → des_token name password ≡ Err BadPassword
  pub sha_name : (name password : List ℕ) → is_name 10 name ≡ false → sha_token name password ≡ Err BadProfileName
  pub sha_password : (name password : List ℕ) → T (is_name 10 name) → is_password password ≡ false → sha_token name password ≡ Err BadPassword

pub record Orders : Type 0 where
  -- "Order: 5 first, 4 last."
  pub five_first : FiveFirst
  pub four_last : FourLast
  -- "Framing and environment faults: the first met from left to right; 25 after all those."
  pub framing : Telnet.FirstFaultDecides
  pub environment : Env.FirstFaultDecides
  pub repeats : Env.RepeatGivesWay
  -- "An environment reader tests 3 before 20; its writer gives 20, 27, 21, 24, 25, 3"
  pub reader : Env.TooLongFirst
  pub writer : (first : ℕ) (bytes numbers out : List ℕ) → WriterOrder first bytes numbers out
  -- "In tables, record by record, 31 before 32."
  pub tables : FirstRecordDecides
  -- "Frames: 40 to 45 ascending, then 52, then 50."
  pub frames : FrameIsItsSentence
  pub ledger : LedgerOrder
  -- "Verdicts: 35, 30 to 32, 3, 20 to 25."
  pub verdicts : (seed table payload : List ℕ) → VerdictOrder seed table payload
  -- "Token maker: 33 before 34."
  pub token_maker : MakerOrder
