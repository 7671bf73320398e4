-- The calls from C (`Demand1C`): an answer's refusal is one of its numbers, and what is handed over by numbers comes
-- back by them with a refusal; so each field follows from the one of `Demand1`. Assumes nothing.
use Rattle.std.specs.Prelude.{Option, None, Some, Result, Ok, Err, if◌then◌else◌}
use mathlib.Core.Path.{◌≡◌, refl, ap, subst, subst⁻¹, ◌∙◌}
use mathlib.Core.Bool.{Bool, true, false, not, ◌||◌}
use mathlib.Core.List.{List, [], ◌∷◌}
use Prim.Native.Nat.{ℕ}
use lib.Dec.{T, eqb, ltb}
use lib.ListN.{length}
use borrow.Author.Tests.{eqb-true}
use Rattle.octets.specs.Lent.{Outcome, outcome}
use Rattle.octets.proofs.Choice.{choice}
use Rattle.octets.proofs.Promise.{front-either}
use Rattle.refusal.specs.declared.Refusal.{Refusal}
use Rattle.refusal.specs.Refusal.{number, no_room, past_the_end, bad_command, off_answered_by_on, bad_profile}
use Rattle.refusal.specs.RefusedBy.{RefusalNumber, no_refusal, refused_by, by_number, refusal_number, number_or_0}
use Rattle.refusal.specs.Written.{written_into}
use Rattle.telnet.specs.declared.Verb.{Verb}
use Rattle.telnet.specs.declared.Kind.{Kind}
use Rattle.telnet.specs.Event.{event}
use Rattle.telnet_reader.specs.declared.Found.{Found as FoundEvent}
use Rattle.telnet_reader.specs.Promise.{look_at, read_at}
use Rattle.telnet_records.specs.declared.Record.{Record}
use Rattle.telnet_records.specs.Promise.{record_at}
use Rattle.telnet_writer.specs.Promise.{write_of}
use Rattle.option_verbs.specs.declared.Outgoing.{Outgoing}
use Rattle.option_sides.specs.declared.Sides.{Sides}
use Rattle.option_sides.specs.declared.Answered.{Answered}
use Rattle.option_sides.specs.Session.{received, requested}
use Rattle.option_line.specs.declared.Sent.{Sent}
use Rattle.option_line.specs.Line.{received_on, requested_on, heard_on}
use Rattle.env_delivery.specs.declared.Payload.{Payload}
use Rattle.env_delivery.specs.Promise.{read_into}
use Rattle.env_writer.specs.Promise.{write_into}
use Rattle.profile.specs.Table.{table_of}
use Rattle.profile_table.specs.declared.Entry.{Entry}
use Rattle.profile_table.specs.Answer.{checked, found_in}
use Rattle.profile_maker.specs.Promise.{make_into}
use Rattle.password_des.specs.Answer.{des_token, des_substitute}
use Rattle.password_sha.specs.Answer.{sha_token, sha_substitute}
use Rattle.signon.specs.declared.Verdict.{Verdict}
use Rattle.signon.specs.declared.Reason.{Reason}
use Rattle.signon.specs.Verdict.{answer_of}
use Rattle.signon.specs.Reason.{explain_of}
use Rattle.startup_record.specs.Promise.{respond_into}
use Rattle.print_frame.specs.declared.Frame.{Frame}
use Rattle.print_frame.specs.Frame.{frame_of}
use Rattle.print_ledger.specs.declared.Ledger.{Ledger}
use Rattle.print_ledger.specs.declared.Receipt.{Receipt}
use Rattle.print_ledger.specs.Ledger.{take_frame, complete_into}
use Rattle.export.specs.Numbers.{numbered, not_written, written_numbers, verb_named, kind_named}
use Rattle.export.proofs.KindNames.{no-verb, no_kind}
use Rattle.export_telnet.specs.Numbers as Telnet
use Rattle.export_option.specs.declared.TvSides.{TvSides}
use Rattle.export_option.specs.Numbers.{sides_named, whose_named, command_named, sides_numbers, is_refusal, handed_back}
use Rattle.export_option.specs.Numbers.{answering, answered_numbers, receive_named, sent_to, sent_numbers, receive_on_named}
use Rattle.export_env.specs.Numbers as Env
use Rattle.export_profile.specs.Numbers.{table_numbers, found_numbers}
use Rattle.export_password.specs.Numbers.{sha_length, block_numbers, hash_into, substitute_into}
use Rattle.export_signon.specs.Numbers.{verdict_named, answer_numbers, explained_numbers}
use Rattle.export_print.specs.declared.TvLedger.{TvLedger}
use Rattle.export_print.specs.Numbers.{frame_numbers, ledger_numbers, ledger_named, receipt_numbers, completion_numbers}
use Rattle.claims.specs.Refusals.{one_of, Refuses, by_receipt}
use Rattle.claims.specs.Demand1.{RefusesBy, RefusesInto, RefusesOnLine}
use Rattle.claims.specs.Demand1C.{Writes, Steps, StepsOnLine, Demand1C}
use Rattle.claims.proofs.FragmentRefusals.{reader-feeds}
use Rattle.claims.proofs.OneOf.{of_none, more, after, wider, mapped, numbers_of}
use Rattle.claims.proofs.LineRefusals.{looks, reads, reads-records, writes, lists}
use Rattle.claims.proofs.SessionRefusals.{session-receives, session-requests, line-receives, line-requests}
use Rattle.claims.proofs.SessionRefusals.{line-hears}
use Rattle.claims.proofs.PayloadRefusals.{reads-payloads, writes-payloads}
use Rattle.claims.proofs.SignonRefusals.{checks, finds, makes, des-tokens, sha-tokens, des-substitutes}
use Rattle.claims.proofs.SignonRefusals.{sha-substitutes, judges, explains, responds, reads-frames, takes, completes}

-- the number that tells a refusal: 0 where there is none
abbrev number_of : RefusalNumber → ℕ
number_of no_refusal = 0
number_of (refused_by n) = n

module _ (ms : List ℕ) {L : Type 0} (found left : L) where
  -- What is refused by a number is so where the number is told, and 0 tells of no refusal.
  by-own-number : (n : ℕ) → Refuses ms found left (refused_by n) → Refuses ms found left (by_number n)
  by-own-number n t = choice (Refuses ms found left) (eqb n 0) (λ _. tt) (λ _. t)

  by_number_lem : (r : RefusalNumber) → Refuses ms found left r → Refuses ms found left (by_number (number_of r))
  by_number_lem no_refusal t = tt
  by_number_lem (refused_by n) t = by-own-number n t

-- An answer that is told by numbers, of which one is its refusal's.
module _ {A : Type 0} {told_number : Result A Refusal → ℕ}
    (same : (a : Result A Refusal) → told_number a ≡ number_of (refusal_number a)) (ms : List ℕ) where
  told : {L : Type 0} (found left : L) (a : Result A Refusal)
      → Refuses ms found left (refusal_number a) → Refuses ms found left (by_number (told_number a))
  told found left a t =
      subst⁻¹ (λ n. Refuses ms found left (by_number n)) (same a) (by_number_lem ms found left (refusal_number a) t)

  told-by : (a : Result A Refusal) → RefusesBy ms (refusal_number a) → RefusesBy ms (by_number (told_number a))
  told-by a t = told tt tt a t

  told-into : (out : List ℕ) (o : Outcome (Result A Refusal))
      → RefusesInto ms refusal_number out o → Refuses ms out o.lent (by_number (told_number o.answer))
  told-into out o t = told out o.lent o.answer t

event-number : (a : Result (Option FoundEvent) Refusal) → (Telnet.event_numbers a).refusal ≡ number_of (refusal_number a)
event-number (Ok None) = refl
event-number (Ok (Some f)) = refl
event-number (Err why) = refl

record-number : (a : Result (Option Record) Refusal) → (Telnet.record_numbers a).refusal ≡ number_of (refusal_number a)
record-number (Ok None) = refl
record-number (Ok (Some r)) = refl
record-number (Err why) = refl

written-number : (a : Result ℕ Refusal) → (written_numbers a).refusal ≡ number_of (refusal_number a)
written-number (Ok n) = refl
written-number (Err why) = refl

payload-number : (a : Result Payload Refusal) → (Env.payload_numbers a).refusal ≡ number_of (refusal_number a)
payload-number (Ok p) = refl
payload-number (Err why) = refl

table-number : (a : Result ℕ Refusal) → (table_numbers a).refusal ≡ number_of (refusal_number a)
table-number (Ok n) = refl
table-number (Err why) = refl

found_number : (a : Result (Option Entry) Refusal) → (found_numbers a).refusal ≡ number_of (refusal_number a)
found_number (Ok None) = refl
found_number (Ok (Some e)) = refl
found_number (Err why) = refl

block-number : (a : Result ℕ Refusal) → (block_numbers a).refusal ≡ number_of (refusal_number a)
block-number (Ok x) = refl
block-number (Err why) = refl

explained-number : (a : Result Reason Refusal) → (explained_numbers a).refusal ≡ number_of (refusal_number a)
explained-number (Ok r) = refl
explained-number (Err why) = refl

signon-number : (a : Result Verdict Refusal) → (answer_numbers a).refusal ≡ number_of (refusal_number a)
signon-number (Ok v) = refl
signon-number (Err why) = refl

frame-number : (a : Result Frame Refusal) → (frame_numbers a).refusal ≡ number_of (refusal_number a)
frame-number (Ok f) = refl
frame-number (Err why) = refl

-- an event that numbers name, or none
writes-named : (k : Option Kind) (payload out : List ℕ)
    → Writes (7 ∷ 3 ∷ 4 ∷ []) out (numbered written_numbers (Telnet.write_named k payload out))
unfolding one_of
writes-named None payload out = (tt, refl)
writes-named (Some k) payload out =
    let e = event k payload in told-into written-number (7 ∷ 3 ∷ 4 ∷ []) out (write_of e out) (writes e out)

-- a step that refuses by some numbers, where neither 0 nor 14 is a refusal
module _ (ms : List ℕ) (by : ℕ → RefusalNumber) (zero-by : by 0 ≡ no_refusal)
    (note-by : RefusesBy ms (by off_answered_by_on) → by off_answered_by_on ≡ no_refusal) (given : TvSides) where
  -- Sides that are handed over by numbers come back by them with a refusal.
  module _ (x : Sides) {M : Type 0} (found left : M) (n : ℕ) where
    abbrev Goal : TvSides → RefusalNumber → Type 0
    Goal y r = Refuses ms {L = TvSides × M} (given, found) (y, left) r

    by_tests : (zero note : Bool) → eqb n 0 ≡ zero → eqb n off_answered_by_on ≡ note → Refuses ms found left (by n)
        → Goal (if not (zero || note) then given else sides_numbers x) (by n)
    by_tests true note z e t = subst⁻¹ (Goal (sides_numbers x)) (ap by (eqb-true n 0 z) ∙ zero-by) tt
    by_tests false true z e t =
        let is = eqb-true n off_answered_by_on e in
        let told = subst (λ k. RefusesBy ms (by k)) is (numbers_of ms found left (by n) t) in
        subst⁻¹ (Goal (sides_numbers x)) (ap by is ∙ note-by told) tt
    by_tests false false z e t = mapped ms (λ (m : M). (given, m)) found left (by n) t

    handed : Refuses ms found left (by n) → Goal (handed_back given n x) (by n)
    unfolding handed_back is_refusal
    handed t = by_tests (eqb n 0) (eqb n off_answered_by_on) refl refl t

  answering_by : (x : TvSides) (n : ℕ) (w : Option Outgoing) → Refuses ms given x (by n) → Steps ms by given (answering x n w)
  answering_by x n None t = t
  answering_by x n (Some q) t = t

  steps : (s : Sides) (a : Answered)
      → Refuses ms s a.sides (by (number_or_0 a.refusal)) → Steps ms by given (answered_numbers given a)
  steps s a t =
      let n = number_or_0 a.refusal in
      let x = handed_back given n a.sides in
      answering_by x n a.writes
      (mapped ms (λ (p : TvSides × Sides). p.0) (given, s) (x, a.sides) (by n)
      (handed a.sides s a.sides n t))

  steps-on-line : (s : Sides) (l : List ℕ) (at : ℕ) (o : Outcome Sent)
      → RefusesOnLine ms by s l at o → StepsOnLine ms by given l at (numbered (sent_numbers given) o)
  steps-on-line s l at o t =
      let a = o.answer in
      let left : List ℕ × ℕ = (o.lent, a.place) in
      handed a.sides {M = List ℕ × ℕ} (l, at) left (number_or_0 a.refusal)
      (mapped ms (λ (p : Sides × (List ℕ × ℕ)). p.1) (s, (l, at)) (a.sides, left) (by (number_or_0 a.refusal)) t)

-- an option command that a number names, or none
receives-named : (ms : List ℕ) → T (one_of ms bad_command) → (s : TvSides) (v : Option Verb) (option : ℕ) (accept : Bool)
    → Steps ms by_receipt s (receive_named s v option accept)
receives-named ms six s None option accept = (six, refl)
receives-named ms six s (Some v) option accept =
    let x = sides_named s in
    let a = received x v option accept in
    steps ms by_receipt refl (λ _. refl) s x a
    (wider [] ms (of_none ms) x a.sides (by_receipt (number_or_0 a.refusal)) (session-receives x v option accept))

receives-on-named : (s : TvSides) (v : Option Verb) (option : ℕ) (accept : Bool) (l : List ℕ) (at : ℕ)
    → StepsOnLine (5 ∷ 4 ∷ 6 ∷ []) by_receipt s l at (receive_on_named s v option accept l at)
unfolding receive_on_named one_of
receives-on-named s None option accept l at =
    choice (λ (n : ℕ). StepsOnLine (5 ∷ 4 ∷ 6 ∷ []) by_receipt s l at (outcome (sent_to s n at) l)) (ltb (length l) at)
    {x = past_the_end} {y = bad_command} (λ _. (tt, refl)) (λ _. (tt, refl))
receives-on-named s (Some v) option accept l at =
    let x = sides_named s in
    let o = received_on x v option accept l at in
    let a = o.answer in
    steps-on-line (5 ∷ 4 ∷ 6 ∷ []) by_receipt refl (λ _. refl) s x l at o
    (wider (5 ∷ 4 ∷ []) (mathlib.Core.List.◌++◌ {A = ℕ} (5 ∷ 4 ∷ []) (6 ∷ [])) (after (5 ∷ 4 ∷ []) (6 ∷ [])) {L = Sides × (List ℕ × ℕ)} (x, (l, at)) (a.sides, (o.lent, a.place))
    (by_receipt (number_or_0 a.refusal)) (line-receives x v option accept l at))

-- a hash value that is written
hash-written : (ms : List ℕ) (h : Result (List ℕ) Refusal) (out : List ℕ) → T (one_of ms no_room) → RefusesBy ms (refusal_number h)
    → Writes ms out (hash_into h out)
unfolding hash_into
hash-written ms (Err why) out four t =
    by-own-number ms out out (number why) (mapped ms (λ (_ : Unit {0}). out) tt tt (refused_by (number why)) t)
hash-written ms (Ok bytes) out four t =
    front-either _ (not_written no_room) bytes out (Writes ms out) (λ _. (four, refl)) (λ _. tt)

sha-tokens-written : (name password out : List ℕ)
    → Writes (33 ∷ 34 ∷ 4 ∷ []) out (hash_into (sha_token name password) out)
unfolding one_of
sha-tokens-written name password out =
    let h = sha_token name password in
    hash-written (mathlib.Core.List.◌++◌ {A = ℕ} (33 ∷ 34 ∷ []) (4 ∷ [])) h out tt
    (wider (33 ∷ 34 ∷ []) (mathlib.Core.List.◌++◌ {A = ℕ} (33 ∷ 34 ∷ []) (4 ∷ [])) (after (33 ∷ 34 ∷ []) (4 ∷ [])) {L = Unit {0}} tt tt (refusal_number h) (sha-tokens name password))

sha-substitutes-written : (token name : List ℕ) (server client : ℕ) (out : List ℕ)
    → Writes (31 ∷ 33 ∷ 4 ∷ []) out (substitute_into token name server client out)
unfolding substitute_into one_of
sha-substitutes-written token name server client out =
    let h = sha_substitute token name server client in
    choice (Writes (31 ∷ 33 ∷ 4 ∷ []) out) (not (eqb (length token) sha_length)) {x = outcome (not_written bad_profile) out}
    (λ _. (tt, refl))
    (λ _. hash-written (31 ∷ 33 ∷ 4 ∷ []) h out tt
    (wider (33 ∷ []) (31 ∷ 33 ∷ 4 ∷ []) (λ n t. more 31 (33 ∷ 4 ∷ []) n (after (33 ∷ []) (4 ∷ []) n t)) {L = Unit {0}} tt tt
    (refusal_number h) (sha-substitutes token name server client)))

-- a ledger that is handed over by its numbers
module _ (ms : List ℕ) (given l : TvLedger) where
  taken-told : (r : Result Receipt Refusal) → RefusesBy ms (refusal_number r)
      → let t = receipt_numbers given l r in Refuses ms given t.ledger (by_number t.refusal)
  taken-told (Ok r) t = tt
  taken-told (Err why) t = by-own-number ms given given (number why) (t.0, refl)

  completed-told : (out left : List ℕ) (c : Result (Unit {0}) Refusal) → Refuses ms out left (refusal_number c)
      → let t = completion_numbers given l c in
      Refuses ms {L = TvLedger × List ℕ} (given, out) (t.ledger, left) (by_number t.refusal)
  completed-told out left (Ok _) t = tt
  completed-told out left (Err why) t =
      by-own-number ms {L = TvLedger × List ℕ} (given, out) (given, left) (number why)
      (mapped ms (λ (m : List ℕ). (given, m)) out left (refused_by (number why)) t)

pub demand-1-c-holds : Demand1C
unfolding one_of
demand-1-c-holds = record {
  look = λ s at. told-by event-number (5 ∷ Rattle.claims.specs.Demand1.line) (look_at s at) (looks s at);
  read = λ s at out. told-into event-number (5 ∷ 4 ∷ Rattle.claims.specs.Demand1.line) out (read_at s at out) (reads s at out);
  read_record = λ s at out. told-into record-number (5 ∷ 4 ∷ Rattle.claims.specs.Demand1.line) out (record_at s at out) (reads-records s at out);
  write = λ what code option payload out. writes-named (kind_named what code option) payload out;
  write_nothing = λ what code option payload out h.
      ap (λ (k : Option Kind). (written_numbers (Telnet.write_named k payload out).answer).refusal)
      ((no_kind what code option).1 h);
  reader_feed = reader-feeds;
  sides_receive = λ s code option accept. receives-named (6 ∷ []) tt s (verb_named code) option accept;
  sides_request = λ s ours option on.
      let x = sides_named s in
      let a = requested x (whose_named ours) option (command_named on) in
      steps (10 ∷ 11 ∷ 12 ∷ 13 ∷ []) by_number refl (λ t. absurd t.0) s x a (session-requests x (whose_named ours) option (command_named on));
  option_receive = λ s code option accept l at. receives-on-named s (verb_named code) option accept l at;
  option_request = λ s ours option on l at.
      let x = sides_named s in
      steps-on-line (5 ∷ 4 ∷ 10 ∷ 11 ∷ 12 ∷ 13 ∷ []) by_number refl (λ t. absurd t.0) s x l at
      (requested_on x (whose_named ours) option (command_named on) l at)
      (line-requests x (whose_named ours) option (command_named on) l at);
  option_hear = λ s heard from accept l at.
      let x = sides_named s in
      steps-on-line (5 ∷ 4 ∷ Rattle.claims.specs.Demand1.line) by_receipt refl (λ _. refl) s x l at (heard_on x heard from accept l at)
      (line-hears x heard from accept l at);
  receive_nothing = λ s code option accept h.
      ap (λ (v : Option Verb). (receive_named s v option accept).number) ((no-verb code).1 h);
  env_read = λ p bytes numbers.
      let d = read_into p bytes numbers in
      told payload-number (4 ∷ Rattle.claims.specs.Demand1.payload) {L = List ℕ × List ℕ} (bytes, numbers) (d.bytes, d.numbers) d.answer
      (reads-payloads p bytes numbers);
  env_write = λ first bytes numbers out.
      told-into written-number (20 ∷ 27 ∷ 21 ∷ 24 ∷ 25 ∷ 3 ∷ 4 ∷ []) out (write_into first bytes numbers out)
      (writes-payloads first bytes numbers out);
  list = λ words out. told-into written-number (4 ∷ []) out (written_into words out) (lists words out);
  table_check = λ t. told-by table-number Rattle.claims.specs.Demand1.table (checked (table_of t)) (checks t);
  table_find = λ t name. told-by found_number Rattle.claims.specs.Demand1.table (found_in name (table_of t)) (finds t name);
  make_record = λ m out. told-into written-number (33 ∷ 34 ∷ 4 ∷ []) out (make_into m out) (makes m out);
  des_token = λ name password. told-by block-number (33 ∷ 34 ∷ []) (des_token name password) (des-tokens name password);
  des_substitute = λ token name server client.
      told-by block-number (33 ∷ []) (des_substitute token name server client)
      (des-substitutes token name server client);
  sha_token = sha-tokens-written;
  sha_substitute = sha-substitutes-written;
  verdict = λ seed t p. told-by signon-number (mathlib.Core.List.◌++◌ {A = ℕ} (35 ∷ Rattle.claims.specs.Demand1.table) Rattle.claims.specs.Demand1.payload) (answer_of seed t p) (judges seed t p);
  explain = λ seed t p. told-by explained-number (mathlib.Core.List.◌++◌ {A = ℕ} (35 ∷ Rattle.claims.specs.Demand1.table) Rattle.claims.specs.Demand1.payload) (explain_of seed t p) (explains seed t p);
  response = λ fault verdict system device out.
      let v = verdict_named verdict in
      told-into written-number (36 ∷ 4 ∷ []) out (respond_into fault v system device out)
      (responds fault v system device out);
  read_frame = λ f. told-by frame-number Rattle.claims.specs.Demand1.frame (frame_of f) (reads-frames f);
  ledger_take = λ ledger f.
      let l = ledger_named ledger in
      let t = take_frame l f in
      taken-told (52 ∷ 50 ∷ Rattle.claims.specs.Demand1.frame) ledger (ledger_numbers t.ledger) t.receipt
      (numbers_of (52 ∷ 50 ∷ Rattle.claims.specs.Demand1.frame) l t.ledger (refusal_number t.receipt) (takes l f));
  ledger_complete = λ ledger out.
      let l = ledger_named ledger in
      let o = complete_into l out in
      let c = o.answer in
      completed-told (51 ∷ 4 ∷ []) ledger (ledger_numbers c.ledger) out o.lent c.completion
      (mapped (51 ∷ 4 ∷ []) (λ (p : Ledger × List ℕ). p.1) (l, out) (c.ledger, o.lent) (refusal_number c.completion)
      (completes l out));
}
