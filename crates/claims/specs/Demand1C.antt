-- Demand 1 at the boundary to C: the calls `tv_..` are the entry points of a gateway in C, over the definitions that
-- their promises equal. Each refuses by numbers of its own, and then leaves every buffer and list as it was, and hands
-- back sides, ledger, reader and place by the numbers that were given. `tv_sides_fresh`, `tv_env_value`,
-- `tv_ledger_fresh`, `tv_reader_fresh`, `tv_reader_reset` and `tv_reader_close` refuse nothing.
use Rattle.std.specs.Prelude.{ℕ, ◌<◌, ◌≡◌, Bool, List, [], ◌∷◌, ◌++◌, ◌⊎◌}
use Rattle.octets.specs.Lent.{Outcome}
use Rattle.refusal.specs.RefusedBy.{RefusalNumber, by_number}
use Rattle.refusal.specs.Written.{written_into}
use Rattle.telnet_reader.specs.Promise.{look_at, read_at}
use Rattle.telnet_records.specs.Promise.{record_at}
use Rattle.option_sides.specs.Session.{requested}
use Rattle.option_line.specs.Line.{requested_on, heard_on}
use Rattle.env_delivery.specs.Promise.{read_into}
use Rattle.env_writer.specs.Promise.{write_into}
use Rattle.profile.specs.Table.{table_of}
use Rattle.profile_table.specs.Answer.{checked, found_in}
use Rattle.profile_maker.specs.Made.{Making}
use Rattle.profile_maker.specs.Promise.{make_into}
use Rattle.password_des.specs.Answer.{des_token, des_substitute}
use Rattle.password_sha.specs.Answer.{sha_token}
use Rattle.signon.specs.Verdict.{answer_of}
use Rattle.signon.specs.Reason.{explain_of}
use Rattle.startup_record.specs.Promise.{respond_into}
use Rattle.print_frame.specs.Frame.{frame_of}
use Rattle.print_ledger.specs.Ledger.{take_frame, complete_into}
use Rattle.export.specs.declared.TvWritten.{TvWritten}
use Rattle.export.specs.Numbers.{numbered, written_numbers, verb_named, kind_named, NoCode}
use Rattle.export_telnet.specs.Numbers as Telnet
use Rattle.export_reader.specs.declared.TvReader.{TvReader}
use Rattle.export_reader.specs.declared.TvFed.{TvFed}
use Rattle.export_reader.specs.Numbers.{FedByNumbers}
use Rattle.export_option.specs.declared.TvSides.{TvSides}
use Rattle.export_option.specs.declared.TvAnswered.{TvAnswered}
use Rattle.export_option.specs.declared.TvSent.{TvSent}
use Rattle.export_option.specs.Numbers.{sides_named, whose_named, command_named, receive_named, receive_on_named, answered_numbers, sent_numbers}
use Rattle.export_env.specs.Numbers as Env
use Rattle.export_profile.specs.Numbers.{table_numbers, found_numbers}
use Rattle.export_password.specs.Numbers.{block_numbers, hash_into, substitute_into}
use Rattle.export_signon.specs.Numbers.{verdict_named, answer_numbers, explained_numbers}
use Rattle.export_print.specs.declared.TvLedger.{TvLedger}
use Rattle.export_print.specs.Numbers.{frame_numbers, ledger_named, taken_numbers, completed_numbers}
use Rattle.claims.specs.Refusals.{Refuses, by_receipt, by_feed}
use Rattle.claims.specs.Demand1.{line, payload, frame, table, RefusesBy}

-- a call that writes to the front of a buffer: by one of these numbers, with the buffer as it was
abbrev pub Writes : List ℕ → (out : List ℕ) → Outcome TvWritten → Type 0
Writes numbers out o = Refuses numbers out o.lent (by_number o.answer.refusal)

-- a step of the sides: with the sides as they were given
abbrev pub Steps : List ℕ → (ℕ → RefusalNumber) → (given : TvSides) → TvAnswered → Type 0
Steps numbers by given a = Refuses numbers given a.sides (by a.number)

-- and with its command on a line: with sides, line and place as they were given
abbrev pub StepsOnLine : List ℕ → (ℕ → RefusalNumber) → (given : TvSides) (line : List ℕ) (at : ℕ) → Outcome TvSent → Type 0
StepsOnLine numbers by given line at o =
    Refuses numbers {L = TvSides × (List ℕ × ℕ)} (given, (line, at)) (o.answer.sides, (o.lent, o.answer.place)) (by o.answer.number)

abbrev pub request : List ℕ
request = 10 ∷ 11 ∷ 12 ∷ 13 ∷ []

pub record Demand1C : Type 0 where
  -- tv_look, tv_read, tv_read_record, tv_write
  pub look : (s : List ℕ) (at : ℕ) → RefusesBy (5 ∷ line) (by_number (Telnet.event_numbers (look_at s at)).refusal)
  pub read : (s : List ℕ) (at : ℕ) (out : List ℕ)
      → let o = numbered Telnet.event_numbers (read_at s at out) in Refuses (5 ∷ 4 ∷ line) out o.lent (by_number o.answer.refusal)
  pub read_record : (s : List ℕ) (at : ℕ) (out : List ℕ)
      → let o = numbered Telnet.record_numbers (record_at s at out) in Refuses (5 ∷ 4 ∷ line) out o.lent (by_number o.answer.refusal)
  pub write : (what code option : ℕ) (payload out : List ℕ)
      → Writes (7 ∷ 3 ∷ 4 ∷ []) out (numbered written_numbers (Telnet.write_named (kind_named what code option) payload out))
  -- and 7 where the numbers name no event
  pub write_nothing : (what code option : ℕ) (payload out : List ℕ) → ((what < 1) ⊎ (4 < what)) ⊎ ((what ≡ 3) × NoCode code)
      → (numbered written_numbers (Telnet.write_named (kind_named what code option) payload out)).answer.refusal ≡ 7
  -- tv_reader_feed
  pub reader_feed : (given : TvReader) (kept fragment room : List ℕ) (r : TvFed) (keeps left : List ℕ) → FedByNumbers given kept fragment room r keeps left
      → Refuses (4 ∷ []) {L = TvReader × (List ℕ × List ℕ)} (given, (kept, room)) (r.reader, (keeps, left)) (by_feed r.number)
  -- tv_sides_receive, tv_sides_request
  pub sides_receive : (s : TvSides) (code option : ℕ) (accept : Bool) → Steps (6 ∷ []) by_receipt s (receive_named s (verb_named code) option accept)
  pub sides_request : (s : TvSides) (ours : Bool) (option : ℕ) (on : Bool)
      → Steps request by_number s (answered_numbers s (requested (sides_named s) (whose_named ours) option (command_named on)))
  -- tv_option_receive, tv_option_request, tv_option_hear
  pub option_receive : (s : TvSides) (code option : ℕ) (accept : Bool) (l : List ℕ) (at : ℕ)
      → StepsOnLine (5 ∷ 4 ∷ 6 ∷ []) by_receipt s l at (receive_on_named s (verb_named code) option accept l at)
  pub option_request : (s : TvSides) (ours : Bool) (option : ℕ) (on : Bool) (l : List ℕ) (at : ℕ)
      → StepsOnLine (5 ∷ 4 ∷ request) by_number s l at (numbered (sent_numbers s) (requested_on (sides_named s) (whose_named ours) option (command_named on) l at))
  pub option_hear : (s : TvSides) (heard : List ℕ) (from : ℕ) (accept : Bool) (l : List ℕ) (at : ℕ)
      → StepsOnLine (5 ∷ 4 ∷ line) by_receipt s l at (numbered (sent_numbers s) (heard_on (sides_named s) heard from accept l at))
  -- and 6 where the code is no option command
  pub receive_nothing : (s : TvSides) (code option : ℕ) (accept : Bool) → NoCode code → (receive_named s (verb_named code) option accept).number ≡ 6
  -- tv_env_read, tv_env_write
  pub env_read : (p bytes numbers : List ℕ)
      → let r = Env.read_numbers (read_into p bytes numbers) in
      Refuses (4 ∷ payload) {L = List ℕ × List ℕ} (bytes, numbers) (r.bytes, r.numbers) (by_number r.answer.refusal)
  pub env_write : (first : ℕ) (bytes numbers out : List ℕ)
      → Writes (20 ∷ 27 ∷ 21 ∷ 24 ∷ 25 ∷ 3 ∷ 4 ∷ []) out (numbered written_numbers (write_into first bytes numbers out))
  -- tv_line, tv_list
  pub list : (words out : List ℕ) → Writes (4 ∷ []) out (numbered written_numbers (written_into words out))
  -- tv_table_check, tv_table_find, tv_make_record
  pub table_check : (t : List ℕ) → RefusesBy table (by_number (table_numbers (checked (table_of t))).refusal)
  pub table_find : (t name : List ℕ) → RefusesBy table (by_number (found_numbers (found_in name (table_of t))).refusal)
  pub make_record : (m : Making) (out : List ℕ) → Writes (33 ∷ 34 ∷ 4 ∷ []) out (numbered written_numbers (make_into m out))
  -- tv_des_token, tv_des_substitute, tv_sha_token, tv_sha_substitute
  pub des_token : (name password : List ℕ) → RefusesBy (33 ∷ 34 ∷ []) (by_number (block_numbers (des_token name password)).refusal)
  pub des_substitute : (token : ℕ) (name : List ℕ) (server client : ℕ)
      → RefusesBy (33 ∷ []) (by_number (block_numbers (des_substitute token name server client)).refusal)
  pub sha_token : (name password out : List ℕ) → Writes (33 ∷ 34 ∷ 4 ∷ []) out (hash_into (sha_token name password) out)
  pub sha_substitute : (token name : List ℕ) (server client : ℕ) (out : List ℕ) → Writes (31 ∷ 33 ∷ 4 ∷ []) out (substitute_into token name server client out)
  -- tv_verdict, tv_explain, tv_response
  pub verdict : (seed t p : List ℕ) → RefusesBy (35 ∷ table ++ payload) (by_number (answer_numbers (answer_of seed t p)).refusal)
  pub explain : (seed t p : List ℕ) → RefusesBy (35 ∷ table ++ payload) (by_number (explained_numbers (explain_of seed t p)).refusal)
  pub response : (fault : Bool) (verdict : ℕ) (system device out : List ℕ)
      → Writes (36 ∷ 4 ∷ []) out (numbered written_numbers (respond_into fault (verdict_named verdict) system device out))
  -- tv_read_frame, tv_ledger_take, tv_ledger_complete
  pub read_frame : (f : List ℕ) → RefusesBy frame (by_number (frame_numbers (frame_of f)).refusal)
  pub ledger_take : (ledger : TvLedger) (f : List ℕ)
      → let t = taken_numbers ledger (take_frame (ledger_named ledger) f) in Refuses (52 ∷ 50 ∷ frame) ledger t.ledger (by_number t.refusal)
  pub ledger_complete : (ledger : TvLedger) (out : List ℕ)
      → let o = numbered (completed_numbers ledger) (complete_into (ledger_named ledger) out) in
      Refuses (51 ∷ 4 ∷ []) {L = TvLedger × List ℕ} (ledger, out) (o.answer.ledger, o.lent) (by_number o.answer.refusal)
