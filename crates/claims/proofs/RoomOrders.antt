-- 4 last: what else is told does not go by the room, and with room enough 4 is not told (`four-last`, the record
-- `Orders.FourLast`). A definition is walked test by test; what is told before the room is looked at is `fixed`.
-- Assumes nothing.
use Rattle.std.specs.Prelude.{Option, Some, Result, if◌then◌else◌}
use mathlib.Core.Path.{◌≡◌, refl, sym, ap, subst, subst⁻¹, ◌∙◌}
use mathlib.Core.Bool.{Bool, true, false, not}
use mathlib.Core.List.{List, [], ◌∷◌}
use mathlib.Core.Logic.{◌⊎◌, ⊎_elim}
use Prim.Native.Nat.{ℕ, ◌+◌, ◌≤◌}
use native.Mathlib.Omega.{arith}
use lib.Dec.{T, ltb}
use lib.ListN.{length, drop}
use borrow.Author.Tests.{le-ltb}
use Rattle.octets.specs.Lent.{Outcome}
use Rattle.octets.specs.Promise.{write_front}
use Rattle.octets.proofs.Choice.{choice}
use Rattle.refusal.specs.declared.Refusal.{Refusal}
use Rattle.refusal.specs.Refusal.{number}
use Rattle.refusal.specs.RefusedBy.{RefusalNumber, no_refusal, refused_by, refusal_number, number_or_0}
use Rattle.env_delivery.specs.declared.Payload.{Payload}
use Rattle.telnet.specs.Event.{Event, run, command, negotiation, subnegotiation, carried_bytes, payload_limit}
use Rattle.telnet.specs.Write.{writable, written}
use Rattle.telnet.specs.Whole.{well, refusal}
use Rattle.telnet.specs.Read.{Front, no_event, found, refused, event_of}
use Rattle.telnet.specs.Record.{Gathered, complete, no_record, record_of}
use Rattle.telnet_reader.specs.Promise as Reader
use Rattle.telnet_reader.specs.Promise.{read_at}
use Rattle.telnet_records.specs.Promise.{answer_no_record, kept, record_at}
use Rattle.telnet_writer.specs.Promise.{unwritable, write_of}
use Rattle.option_rules.specs.declared.Command.{Command}
use Rattle.option_rules.proofs.Cells.{request-tells}
use Rattle.option_verbs.specs.declared.Whose.{Whose}
use Rattle.option_sides.specs.declared.Sides.{Sides}
use Rattle.option_sides.specs.Session.{side_at}
use Rattle.option_line.specs.declared.Sent.{Sent}
use Rattle.option_line.specs.Line.{requested_on}
use Rattle.option_line.specs.Theorems.{by_request, Short}
use Rattle.option_line.proofs.Telling.{request-tells-all}
use Rattle.env.specs.declared.VariableRecord.{VariableRecord}
use Rattle.env.specs.Variable.{Variable, variable_limit, is_first, repeated}
use Rattle.env.specs.Read.{Reading, says, not_read, reading_of}
use Rattle.env.specs.Write.{Objection, objection, payload_of, nameless}
use Rattle.env.specs.Numbers.{packed, recorded, variables_held, placed}
use Rattle.env_delivery.specs.Promise.{Delivery, delivered}
use Rattle.env_list.specs.Lists.{Listing}
use Rattle.env_list.specs.Reading.{listed}
use Rattle.env_writer.specs.Promise.{put, write_into}
use Rattle.names.specs.Name.{is_name, profile_limit, device_limit, system_limit}
use Rattle.password_sha.specs.Sha.{is_password}
use Rattle.profile.specs.Profile.{record_bytes}
use Rattle.profile_maker.specs.Made.{Making, made_profile}
use Rattle.profile_maker.specs.Promise.{make_into}
use Rattle.signon.specs.declared.Verdict.{Verdict}
use Rattle.startup.specs.Response.{response_of}
use Rattle.startup_record.specs.Promise.{respond_into}
use Rattle.print_ledger.specs.declared.Ledger.{Ledger}
use Rattle.print_ledger.specs.declared.Completed.{Completed}
use Rattle.print_ledger.specs.Ledger.{print_complete, complete_into}
use Rattle.claims.specs.Refusals.{one_of}
use Rattle.claims.specs.Demand1.{line, payload}
use Rattle.claims.specs.Orders.{Last, OneBuffer, BufferAndList, FourLast}
use Rattle.claims.proofs.LineRefusals.{by-line, ByLine, GatheredBy, record-by}
use Rattle.claims.proofs.PayloadRefusals.{ReadingBy, reading-by}
use Rattle.claims.proofs.PlaceOrders.{apart}

abbrev NotFour : RefusalNumber → Type 0
NotFour no_refusal = Unit {0}
NotFour (refused_by n) = n ≡ 4 → ⊥

abbrev OnlyFour : RefusalNumber → Type 0
OnlyFour no_refusal = Unit {0}
OnlyFour (refused_by n) = n ≡ 4

module _ {L : Type 0} {roomy : ℕ → L → Type 0} where
  -- what is told whatever is lent
  fixed : {call : L → RefusalNumber} (r : RefusalNumber) → NotFour r → ((l : L) → call l ≡ r) → Last roomy call
  fixed r other is = record {
    others = λ l m n _ e. is m ∙ (sym (is l) ∙ e);
    enough = λ l e. absurd (subst NotFour (sym (is l) ∙ e) other refl);
  }

  -- a test of something else comes first
  walked : {A : Type 0} (tell : A → RefusalNumber) (t : Bool) {x y : L → A}
      → Last roomy (λ l. tell (x l)) → Last roomy (λ l. tell (y l))
      → Last roomy (λ l. tell (if t then x l else y l))
  walked tell true a b = a
  walked tell false a b = b

-- Only 4 may be told, and with room enough nothing is.
record Rooms {L : Type 0} (enough : L → Type 0) (call : L → RefusalNumber) : Type 0 where
  only : (l : L) → OnlyFour (call l)
  nothing : (l : L) → enough l → call l ≡ no_refusal

module _ {L : Type 0} {enough : L → Type 0} where
  done : {call : L → RefusalNumber} → ((l : L) → call l ≡ no_refusal) → Rooms enough call
  done is = record { only = λ l. subst⁻¹ OnlyFour (is l) tt; nothing = λ l _. is l }

  -- a test of the room
  short : {A : Type 0} (tell : A → RefusalNumber) (t : L → Bool) {x y : L → A} → ((l : L) → enough l → t l ≡ false)
      → ((l : L) → tell (x l) ≡ refused_by 4) → Rooms enough (λ l. tell (y l))
      → Rooms enough (λ l. tell (if t l then x l else y l))
  short tell t fits is s = record {
    only = λ l. choice (λ a. OnlyFour (tell a)) (t l) (λ _. subst⁻¹ OnlyFour (is l) refl) (λ _. s.only l);
    nothing = λ l h. rw (fits l h) (s.nothing l h);
  }

last : {L : Type 0} {roomy : ℕ → L → Type 0} {call : L → RefusalNumber} (room : ℕ) → Rooms (roomy room) call
    → Last roomy call
last room s = record {
  others = λ l m n other e. absurd (other (subst OnlyFour e (s.only l)));
  enough = λ l e. (room, s.nothing);
}

-- what an outcome refuses by
abbrev told : {A : Type 0} → (A → RefusalNumber) → Outcome A → RefusalNumber
told of o = of o.answer

-- bytes written to the front of a buffer
one-buffer : {A : Type 0} (tell : A → RefusalNumber) (wrote : ℕ → A) (none : A) (bytes : List ℕ) → tell none ≡ refused_by 4
    → tell (wrote (length bytes)) ≡ no_refusal → OneBuffer (λ out. tell (write_front wrote none bytes out).answer)
unfolding write_front
one-buffer tell wrote none bytes refuses writes =
    last (length bytes)
    (short (told tell) (λ out. ltb (length out) (length bytes)) (λ out h. le-ltb (length out) (length bytes) h) (λ _. refuses) (done (λ _. writes)))

-- room for `n` bytes and `m` elements
both : {A E : Type 0} (tell : A → RefusalNumber) (n m : ℕ) {x y z : List ℕ × List E → A}
    → ((l : List ℕ × List E) → tell (x l) ≡ refused_by 4)
    → ((l : List ℕ × List E) → tell (y l) ≡ refused_by 4) → ((l : List ℕ × List E) → tell (z l) ≡ no_refusal)
    → BufferAndList (λ l. tell (if ltb (length l.0) n then x l else if ltb (length l.1) m then y l else z l))
both tell n m bytes list writes =
    last (n + m)
    (short tell (λ l. ltb (length l.0) n) (λ l h. le-ltb (length l.0) n (omega arith)) bytes
    (short tell (λ l. ltb (length l.1) m) (λ l h. le-ltb (length l.1) m (omega arith)) list (done writes)))

delivers : (at : ℕ) (f : Front) → ByLine f → OneBuffer (λ out. told refusal_number (Reader.delivered at f out))
unfolding Reader.delivered Reader.answered one_of
delivers at no_event t = fixed no_refusal tt (λ _. refl)
delivers at (refused why) t = fixed (refused_by (number why)) (apart line 4 (number why) (λ x. x) t) (λ _. refl)
delivers at (found e) t = one-buffer refusal_number _ _ (carried_bytes e) refl refl

reads : (s : List ℕ) (at : ℕ) → OneBuffer (λ out. told refusal_number (read_at s at out))
unfolding read_at
reads s at =
    walked (told refusal_number) (ltb (length s) at) (fixed (refused_by 5) (omega arith) (λ _. refl))
    (delivers at (event_of (drop at s)) (by-line (drop at s)))

keeps : (at : ℕ) (g : Gathered) → GatheredBy g → OneBuffer (λ out. told refusal_number (kept at g out))
unfolding kept answer_no_record one_of
keeps at (no_record well) t = fixed no_refusal tt (λ _. refl)
keeps at (no_record (refusal why)) t = fixed (refused_by (number why)) (apart line 4 (number why) (λ x. x) t) (λ _. refl)
keeps at (complete d n) t = one-buffer refusal_number _ _ d refl refl

reads-records : (s : List ℕ) (at : ℕ) → OneBuffer (λ out. told refusal_number (record_at s at out))
unfolding record_at
reads-records s at =
    walked (told refusal_number) (ltb (length s) at) (fixed (refused_by 5) (omega arith) (λ _. refl))
    (keeps at (record_of (drop at s)) (record-by (drop at s)))

writes : (e : Event) → OneBuffer (λ out. told refusal_number (write_of e out))
unfolding write_of unwritable
writes e =
    walked (told refusal_number) (not (writable e)) (fixed (refused_by (number (unwritable e))) (unwritten e) (λ _. refl))
    (one-buffer refusal_number _ _ (written e) refl refl)
  where
    unwritten : (e : Event) → number (unwritable e) ≡ 4 → ⊥
    unwritten (run d) = omega arith
    unwritten (command c) = omega arith
    unwritten (negotiation v o) = omega arith
    unwritten (subnegotiation o p) = omega arith

abbrev request_numbers : List ℕ
request_numbers = 10 ∷ 11 ∷ 12 ∷ 13 ∷ []

-- a request that the table refuses sends nothing, and so is not short of room
requests : (s : Sides) (w : Whose) (o : ℕ) (c : Command) (l : List ℕ) (at n : ℕ)
    → at ≤ length l → T (one_of request_numbers n)
    → number_or_0 (by_request s w o c).refusal ≡ n → number_or_0 (requested_on s w o c l at).answer.refusal ≡ n
unfolding one_of
requests s w o c l at n within t e =
    let told_number : Outcome Sent → ℕ = λ u. number_or_0 u.answer.refusal in
    ⊎_elim (λ z. absurd (apart request_numbers 0 n (λ x. x) t (sym e ∙ z)))
    (⊎_elim (λ z. absurd (apart request_numbers 14 n (λ x. x) t (sym e ∙ z)))
    (λ r. ap told_number ((request-tells-all s w o c l at).step within (subst (Short l at) r.silent)) ∙ e))
    (request-tells o (side_at s w o) c)

-- a payload into a buffer and numbers, and into a buffer and records
abbrev delivery : Delivery → RefusalNumber
delivery d = refusal_number d.answer

abbrev listing : Listing (Outcome (Result Payload Refusal)) → RefusalNumber
listing d = refusal_number d.answer.answer

reads-payloads : (r : Reading) → ReadingBy r
    → BufferAndList (λ (l : List ℕ × List ℕ). delivery (delivered r l.0 l.1))
unfolding delivered one_of
reads-payloads (not_read why) t = fixed (refused_by (number why)) (apart payload 4 (number why) (λ x. x) t) (λ _. refl)
reads-payloads (says first vs) t =
    both delivery (length (packed vs)) (length (recorded 0 vs)) (λ _. refl) (λ _. refl) (λ _. refl)

reads-lists : (r : Reading) → ReadingBy r
    → BufferAndList (λ (l : List ℕ × List VariableRecord). listing (listed r l.0 l.1))
unfolding listed one_of
reads-lists (not_read why) t = fixed (refused_by (number why)) (apart payload 4 (number why) (λ x. x) t) (λ _. refl)
reads-lists (says first vs) t = both listing (length (packed vs)) (length vs) (λ _. refl) (λ _. refl) (λ _. refl)

-- a payload of variables
puts : (first : ℕ) (vs : List Variable)
    → OneBuffer (λ out. told refusal_number (put (objection first vs) (payload_of first vs) out))
unfolding put objection
puts first vs =
    choice Puts (nameless vs) (λ _. fixed (refused_by 21) (omega arith) (λ _. refl))
    (λ _. choice Puts (ltb variable_limit (length vs)) (λ _. fixed (refused_by 24) (omega arith) (λ _. refl))
    (λ _. choice Puts (repeated vs) (λ _. fixed (refused_by 25) (omega arith) (λ _. refl))
    (λ _. choice Puts (ltb payload_limit (length (payload_of first vs)))
    (λ _. fixed (refused_by 3) (omega arith) (λ _. refl))
    (λ _. one-buffer refusal_number _ _ (payload_of first vs) refl refl))))
  where
    Puts : Objection → Type 0
    Puts o = OneBuffer (λ out. told refusal_number (put o (payload_of first vs) out))

writes-payloads : (first : ℕ) (bytes numbers : List ℕ)
    → OneBuffer (λ out. told refusal_number (write_into first bytes numbers out))
unfolding write_into
writes-payloads first bytes numbers =
    walked (told refusal_number) (not (is_first first)) (fixed (refused_by 20) (omega arith) (λ _. refl))
    (walked (told refusal_number) (not (placed bytes numbers)) (fixed (refused_by 27) (omega arith) (λ _. refl))
    (puts first (variables_held bytes numbers)))

makes : (m : Making) → OneBuffer (λ out. told refusal_number (make_into m out))
unfolding make_into
makes m =
    walked (told refusal_number) (not (is_name profile_limit m.name)) (fixed (refused_by 33) (omega arith) (λ _. refl))
    (walked (told refusal_number) (not (is_password m.password)) (fixed (refused_by 34) (omega arith) (λ _. refl))
    (one-buffer refusal_number _ _ (record_bytes (made_profile m)) refl refl))

responds : (fault : Bool) (v : Verdict) (system device : List ℕ)
    → OneBuffer (λ out. told refusal_number (respond_into fault v system device out))
unfolding respond_into
responds fault v system device =
    walked (told refusal_number) (not (is_name device_limit device)) (fixed (refused_by 36) (omega arith) (λ _. refl))
    (walked (told refusal_number) (not (is_name system_limit system)) (fixed (refused_by 36) (omega arith) (λ _. refl))
    (one-buffer refusal_number _ _ (response_of fault v system device) refl refl))

abbrev completion : Completed → RefusalNumber
completion c = refusal_number c.completion

completes : (l : Ledger) → OneBuffer (λ out. told completion (complete_into l out))
unfolding complete_into
completes l =
    walked (told completion) (not l.held) (fixed (refused_by 51) (omega arith) (λ _. refl))
    (one-buffer completion _ _ print_complete refl refl)

pub four-last : FourLast
four-last = record {
  read = reads;
  read_record = reads-records;
  write = writes;
  request = requests;
  read_payload = λ p. reads-payloads (reading_of p) (reading-by p);
  read_records = λ p. reads-lists (reading_of p) (reading-by p);
  write_payload = writes-payloads;
  make = makes;
  response = responds;
  complete = completes;
}
