-- Profile tables, the token maker, verdicts, response records, frames and the ledger: they refuse by their own numbers,
-- and leave all as it was. Assumes nothing.
use Rattle.std.specs.Prelude.{Result, Ok, Err}
use mathlib.Core.Path.{◌≡◌, refl, ap, subst, ◌∙◌}
use mathlib.Core.Bool.{Bool, not, ◌||◌}
use mathlib.Core.List.{List, [], ◌∷◌, ◌++◌}
use Prim.Native.Nat.{ℕ, zero, suc, ◌+◌}
use lib.Dec.{T, eqb, ltb}
use lib.ListN.{length, drop}
use Rattle.octets.specs.Lent.{Outcome}
use Rattle.octets.specs.Same.{same}
use Rattle.octets.proofs.Choice.{choice}
use Rattle.octets.proofs.Promise.{front-either}
use Rattle.refusal.specs.declared.Refusal.{Refusal}
use Rattle.refusal.specs.declared.Refusal.TheVariants.{InboundFrame}
use Rattle.refusal.specs.Refusal.{number}
use Rattle.refusal.specs.RefusedBy.{refusal_number}
use Rattle.names.specs.Name.{is_name, profile_limit, device_limit, system_limit}
use Rattle.names.specs.Order.{precedes}
use Rattle.env.specs.Read.{Reading, says, not_read, reading_of}
use Rattle.profile.specs.Profile.{Shape, shape_of, Profile, record_length, record_bytes}
use Rattle.profile.specs.Table.{name_at, name_length_at, profile_at, is_record, is_version, profile_count, TableReading, profiles, table_refused, add_profile, unless_end, profiles_from, table_of}
use Rattle.profile_table.specs.Answer.{checked, found_in}
use Rattle.profile_maker.specs.Made.{Making, made_profile}
use Rattle.profile_maker.specs.Promise.{make_into}
use Rattle.password_des.specs.Answer.{des_password_limit, des_token, des_substitute}
use Rattle.password_sha.specs.Sha.{is_password}
use Rattle.password_sha.specs.Answer.{sha_token, sha_substitute}
use Rattle.password_check.specs.Gives.{seed_length}
use Rattle.signon.specs.declared.Verdict.{Verdict}
use Rattle.signon.specs.declared.Reason.{Reason}
use Rattle.signon.specs.Verdict.{answer_by, answer_of}
use Rattle.signon.specs.Reason.{explain_of, answer_for}
use Rattle.signon.proofs.Reasons.{verdict-of-its-reason}
use Rattle.startup.specs.Response.{response_of}
use Rattle.startup_record.specs.Promise.{respond_into}
use Rattle.print_frame.specs.declared.Direction.{Direction}
use Rattle.print_frame.specs.declared.Direction.TheVariants.{Outbound, Inbound}
use Rattle.print_frame.specs.declared.Operation.{Operation}
use Rattle.print_frame.specs.declared.Operation.TheVariants.{Print, Clear}
use Rattle.print_frame.specs.declared.Frame.{Frame}
use Rattle.print_frame.specs.Frame.{byte, identifier, data_flow, structure_length, header_length, data_place, is_flow, is_reserved, is_operation, header_of, frame_of}
use Rattle.print_ledger.specs.declared.Ledger.{Ledger}
use Rattle.print_ledger.specs.declared.Taken.{Taken}
use Rattle.print_ledger.specs.declared.Completed.{Completed}
use Rattle.print_ledger.specs.Ledger.{after_frame, printed, cleared, answered, take_frame, print_complete, complete_into}
use Rattle.claims.specs.Refusals.{one_of, Refuses}
use Rattle.claims.specs.Demand1.{payload, frame, table, RefusesBy, RefusesInto}
use Rattle.claims.proofs.OneOf.{more, after}
use Rattle.claims.proofs.LineRefusals.{written-by}
use Rattle.claims.proofs.PayloadRefusals.{ReadingBy, reading-by}

-- what a table says
abbrev TableBy : TableReading → Type 0
TableBy (profiles ps) = Unit {0}
TableBy (table_refused why) = T (one_of table (number why))

add-by : (p : Profile) (r : TableReading) → TableBy r → TableBy (add_profile p r)
unfolding add_profile
add-by p (profiles ps) t = tt
add-by p (table_refused why) t = t

end_by : (bs : List ℕ) (r : TableReading) → TableBy r → TableBy (unless_end bs r)
unfolding unless_end
end_by [] r t = tt
end_by (b ∷ bs) r t = t

records-by : (s : Shape) (room : ℕ) (before bs : List ℕ) → TableBy (profiles_from s room before bs)
unfolding profiles_from one_of
records-by s zero before bs = end_by bs _ (choice TableBy (not (is_record s bs)) (λ _. tt) (λ _. tt))
records-by s (suc room) before bs =
    end_by bs _ (choice TableBy (not (is_record s bs))
    (λ _. tt)
    (λ _. choice TableBy (not (precedes before (name_at bs)))
    (λ _. tt)
    (λ _. add-by (profile_at s bs) _ (records-by s room (name_at bs) (drop (record_length s (name_length_at bs)) bs)))))

table-by : (t : List ℕ) → TableBy (table_of t)
unfolding table_of one_of
table-by [] = tt
table-by (v ∷ bs) = choice TableBy (not (is_version v)) (λ _. tt) (λ _. records-by (shape_of v) profile_count [] bs)

checked-by : (r : TableReading) → TableBy r → RefusesBy table (refusal_number (checked r))
unfolding checked
checked-by (profiles ps) t = tt
checked-by (table_refused why) t = (t, refl)

pub checks : (t : List ℕ) → RefusesBy table (refusal_number (checked (table_of t)))
checks t = checked-by (table_of t) (table-by t)

looked-by : (name : List ℕ) (r : TableReading) → TableBy r → RefusesBy table (refusal_number (found_in name r))
unfolding found_in
looked-by name (profiles ps) t = tt
looked-by name (table_refused why) t = (t, refl)

pub finds : (t name : List ℕ) → RefusesBy table (refusal_number (found_in name (table_of t)))
finds t name = looked-by name (table_of t) (table-by t)

pub makes : (m : Making) (out : List ℕ) → RefusesInto (33 ∷ 34 ∷ 4 ∷ []) refusal_number out (make_into m out)
unfolding make_into one_of
makes m out =
    choice (RefusesInto (33 ∷ 34 ∷ 4 ∷ []) refusal_number out) (not (is_name profile_limit m.name)) (λ _. (tt, refl))
    (λ _. choice (RefusesInto (33 ∷ 34 ∷ 4 ∷ []) refusal_number out) (not (is_password m.password)) (λ _. (tt, refl))
    (λ _. written-by (33 ∷ 34 ∷ 4 ∷ []) tt (record_bytes (made_profile m)) out))

-- tokens and substitutes
abbrev TokenBy : {A : Type 0} → List ℕ → Result A Refusal → Type 0
TokenBy numbers a = RefusesBy numbers (refusal_number a)

pub des-tokens : (name password : List ℕ) → TokenBy (33 ∷ 34 ∷ []) (des_token name password)
unfolding des_token one_of
des-tokens name password =
    choice (TokenBy (33 ∷ 34 ∷ [])) (not (is_name profile_limit name)) (λ _. (tt, refl))
    (λ _. choice (TokenBy (33 ∷ 34 ∷ [])) (not (is_name des_password_limit password)) (λ _. (tt, refl)) (λ _. tt))

pub sha-tokens : (name password : List ℕ) → TokenBy (33 ∷ 34 ∷ []) (sha_token name password)
unfolding sha_token one_of
sha-tokens name password =
    choice (TokenBy (33 ∷ 34 ∷ [])) (not (is_name profile_limit name)) (λ _. (tt, refl))
    (λ _. choice (TokenBy (33 ∷ 34 ∷ [])) (not (is_password password)) (λ _. (tt, refl)) (λ _. tt))

pub des-substitutes : (token : ℕ) (name : List ℕ) (server client : ℕ) → TokenBy (33 ∷ []) (des_substitute token name server client)
unfolding des_substitute one_of
des-substitutes token name server client = choice (TokenBy (33 ∷ [])) (not (is_name profile_limit name)) (λ _. (tt, refl)) (λ _. tt)

pub sha-substitutes : (token name : List ℕ) (server client : ℕ) → TokenBy (33 ∷ []) (sha_substitute token name server client)
unfolding sha_substitute one_of
sha-substitutes token name server client = choice (TokenBy (33 ∷ [])) (not (is_name profile_limit name)) (λ _. (tt, refl)) (λ _. tt)

-- a verdict, by the table and the payload
answered-by : (seed : List ℕ) (t : TableReading) (r : Reading) → TableBy t → ReadingBy r → RefusesBy (35 ∷ table ++ payload) (refusal_number (answer_by seed t r))
unfolding answer_by
answered-by seed (table_refused why) r t q = let n = number why in (more 35 (table ++ payload) n (after table payload n t), refl)
answered-by seed (profiles ps) (not_read why) t q = let n = number why in (more 35 (table ++ payload) n (more 30 _ n (more 31 _ n (more 32 payload n q))), refl)
answered-by seed (profiles ps) (says first vs) t q = tt

pub judges : (seed t p : List ℕ) → RefusesBy (35 ∷ table ++ payload) (refusal_number (answer_of seed t p))
unfolding answer_of one_of
judges seed t p =
    choice (λ (a : Result Verdict Refusal). RefusesBy (35 ∷ table ++ payload) (refusal_number a)) (not (eqb (length seed) seed_length))
    (λ _. (tt, refl)) (λ _. answered-by seed (table_of t) (reading_of p) (table-by t) (reading-by p))

-- an explanation is refused as the verdict is
same-refusal : (x : Result Reason Refusal) → refusal_number (answer_for x) ≡ refusal_number x
same-refusal (Ok r) = refl
same-refusal (Err n) = refl

pub explains : (seed t p : List ℕ) → RefusesBy (35 ∷ table ++ payload) (refusal_number (explain_of seed t p))
explains seed t p =
    subst (RefusesBy (35 ∷ table ++ payload)) (ap refusal_number (verdict-of-its-reason seed t p) ∙ same-refusal (explain_of seed t p)) (judges seed t p)

pub responds : (fault : Bool) (v : Verdict) (system device out : List ℕ) → RefusesInto (36 ∷ 4 ∷ []) refusal_number out (respond_into fault v system device out)
unfolding respond_into one_of
responds fault v system device out =
    choice (RefusesInto (36 ∷ 4 ∷ []) refusal_number out) (not (is_name device_limit device)) (λ _. (tt, refl))
    (λ _. choice (RefusesInto (36 ∷ 4 ∷ []) refusal_number out) (not (is_name system_limit system)) (λ _. (tt, refl))
    (λ _. written-by (36 ∷ 4 ∷ []) tt (response_of fault v system device) out))

-- frames
abbrev FrameBy : Result Frame Refusal → Type 0
FrameBy a = RefusesBy frame (refusal_number a)

pub reads-frames : (f : List ℕ) → FrameBy (frame_of f)
unfolding frame_of header_of one_of
reads-frames f =
    choice FrameBy (ltb (length f) 10 || not (eqb (structure_length f) (length f))) (λ _. (tt, refl))
    (λ _. choice FrameBy (not (eqb (identifier f) 0x12A0)) (λ _. (tt, refl))
    (λ _. choice FrameBy (not (is_flow (data_flow f))) (λ _. (tt, refl))
    (λ _. choice FrameBy (ltb (header_length f) 4 || ltb (structure_length f) (data_place f)) (λ _. (tt, refl))
    (λ _. choice FrameBy (is_reserved (byte f 7) (byte f 8)) (λ _. (tt, refl))
    (λ _. choice FrameBy (not (is_operation (byte f 9))) (λ _. (tt, refl)) (λ _. tt))))))

-- the ledger
abbrev TakenBy : Ledger → Taken → Type 0
TakenBy l t = Refuses (52 ∷ 50 ∷ frame) l t.ledger (refusal_number t.receipt)

-- by what a frame asks
by-direction : (l : Ledger) (f : Frame) (d : Direction) (o : Operation) → TakenBy l (elim d [
  | Inbound ↦ after_frame l (Err InboundFrame)
  | Outbound ↦ elim o [ Print ↦ printed l f | Clear ↦ cleared l f ]
])
unfolding one_of
by-direction l f Inbound o = (tt, refl)
by-direction l f Outbound Print = choice (TakenBy l) l.held (λ _. (tt, refl)) (λ _. tt)
by-direction l f Outbound Clear = choice (TakenBy l) l.held (λ _. tt) (λ _. tt)

taken-by : (l : Ledger) (a : Result Frame Refusal) → FrameBy a → TakenBy l (answered l a)
unfolding one_of
taken-by l (Err why) t = (more 52 (50 ∷ frame) (number why) (more 50 frame (number why) t.0), refl)
taken-by l (Ok f) t = by-direction l f f.direction f.operation

pub takes : (l : Ledger) (f : List ℕ) → TakenBy l (take_frame l f)
unfolding take_frame
takes l f = taken-by l (frame_of f) (reads-frames f)

abbrev CompletedBy : Ledger → List ℕ → Outcome Completed → Type 0
CompletedBy l out o = Refuses (51 ∷ 4 ∷ []) {L = Ledger × List ℕ} (l, out) (o.answer.ledger, o.lent) (refusal_number o.answer.completion)

pub completes : (l : Ledger) (out : List ℕ) → CompletedBy l out (complete_into l out)
unfolding complete_into one_of
completes l out =
    choice (CompletedBy l out) (not l.held) (λ _. (tt, refl))
    (λ _. front-either _ _ print_complete out (CompletedBy l out) (λ _. (tt, refl)) (λ _. tt))
