-- Environment strings: the reader, what it is made of, and the writer refuse by their own numbers, and leave buffer
-- and list as they were. Assumes nothing.
use mathlib.Core.Path.{refl}
use mathlib.Core.Bool.{not}
use mathlib.Core.List.{List, [], ◌∷◌}
use Prim.Native.Nat.{ℕ, suc}
use lib.Dec.{T, ltb}
use lib.ListN.{length}
use Rattle.octets.specs.Lent.{Outcome}
use Rattle.octets.proofs.Choice.{choice}
use Rattle.telnet.specs.Event.{payload_limit}
use Rattle.env.specs.declared.VariableRecord.{VariableRecord}
use Rattle.env.specs.Variable.{undefined, defined, Variable, variable, variable_limit, is_first, repeated}
use Rattle.env.specs.Fields.{Text, text, broken, Field, name_field, value_field, row_of}
use Rattle.env.specs.Read.{Found, variables, fault, add_variable, limited, whole, named, names, expect_no_text, variables_of, Reading, says, not_read, distinct, begun, reading_of}
use Rattle.env.specs.Write.{Objection, none, against, objection, payload_of, nameless}
use Rattle.env.specs.Numbers.{packed, recorded, variables_held, placed}
use Rattle.env_delivery.specs.Promise.{Delivery, delivered, read_into, read_after, hand_over, deliver_read}
use Rattle.env_list.specs.Reading.{listed, read_records}
use Rattle.env_list.specs.Lists.{Listing}
use Rattle.env_writer.specs.Promise.{put, write_into}
use Rattle.std.specs.Prelude.{Result}
use Rattle.refusal.specs.declared.Refusal.{Refusal}
use Rattle.refusal.specs.declared.Refusal.TheVariants.{NoVariable, ValueInValue}
use Rattle.refusal.specs.Refusal.{number, no_room}
use Rattle.env_delivery.specs.declared.Payload.{Payload}
use Rattle.claims.specs.Refusals.{one_of, Refuses}
use Rattle.claims.specs.Demand1.{payload, RefusesInto, RefusesBoth}
use Rattle.claims.proofs.OneOf.{more}
use Rattle.claims.proofs.LineRefusals.{written-by}
use Rattle.refusal.specs.RefusedBy.{refusal_number}

-- the first fault of variables
abbrev FoundBy : Found → Type 0
FoundBy (variables vs) = Unit {0}
FoundBy (fault why) = T (one_of payload (number why))

add-by : (v : Variable) (f : Found) → FoundBy f → FoundBy (add_variable v f)
unfolding add_variable
add-by v (variables vs) t = tt
add-by v (fault why) t = t

limited-by : (k : ℕ) (f : Found) → FoundBy f → FoundBy (limited k f)
unfolding limited one_of
limited-by k f t = choice FoundBy (ltb k variable_limit) (λ _. t) (λ _. tt)

whole_by : (x : Text) (f : List ℕ → Found) → ((bs : List ℕ) → FoundBy (f bs)) → FoundBy (whole x f)
unfolding whole one_of
whole_by broken f t = tt
whole_by (text bs) f t = t bs

named_by : (f : List ℕ → Found) → ((bs : List ℕ) → FoundBy (f bs)) → (bs : List ℕ) → FoundBy (named f bs)
unfolding named one_of
named_by f t [] = tt
named_by f t (b ∷ bs) = t (b ∷ bs)

names-by : (why : Refusal) → T (one_of payload (number why)) → (k : ℕ) (fs : List Field) → FoundBy (names why k fs)
unfolding names one_of
names-by why t k [] = tt
names-by why t k (value_field x ∷ fs) = t
names-by why t k (name_field kind x ∷ value_field u ∷ fs) =
    limited-by k _ (whole_by x _ (named_by _ (λ name. whole_by u _ (λ value. add-by (variable kind name (defined value)) _ (names-by ValueInValue tt (suc k) fs)))))
names-by why t k (name_field kind x ∷ []) = limited-by k _ (whole_by x _ (named_by _ (λ name. add-by (variable kind name undefined) (variables []) tt)))
names-by why t k (name_field kind x ∷ name_field kind₂ u ∷ fs) =
    limited-by k _ (whole_by x _ (named_by _ (λ name. add-by (variable kind name undefined) _ (names-by NoVariable tt (suc k) (name_field kind₂ u ∷ fs)))))

expect-by : (x : Text) (f : Found) → FoundBy f → FoundBy (expect_no_text x f)
unfolding expect_no_text one_of
expect-by broken f t = tt
expect-by (text []) f t = t
expect-by (text (b ∷ bs)) f t = tt

-- what a payload says
abbrev pub ReadingBy : Reading → Type 0
ReadingBy (says first vs) = Unit {0}
ReadingBy (not_read why) = T (one_of payload (number why))

distinct-by : (first : ℕ) (f : Found) → FoundBy f → ReadingBy (distinct first f)
unfolding distinct one_of
distinct-by first (fault why) t = t
distinct-by first (variables vs) t = choice ReadingBy (repeated vs) (λ _. tt) (λ _. tt)

-- after the first byte
rest-by : (first : ℕ) (rest : List ℕ) → ReadingBy (distinct first (variables_of (row_of rest)))
unfolding variables_of one_of
rest-by first rest =
    let row = row_of rest in distinct-by first _ (expect-by row.front _ (names-by NoVariable tt 0 row.fields))

begun-by : (p : List ℕ) → ReadingBy (begun p)
unfolding begun one_of
begun-by [] = tt
begun-by (b ∷ bs) = choice ReadingBy (is_first b) (λ _. rest-by b bs) (λ _. tt)

pub reading-by : (p : List ℕ) → ReadingBy (reading_of p)
unfolding reading_of one_of
reading-by p = choice ReadingBy (ltb payload_limit (length p)) (λ _. tt) (λ _. begun-by p)

-- the reader into buffer and numbers
delivered-by : (r : Reading) (bytes numbers : List ℕ)
    → ReadingBy r → RefusesBoth (4 ∷ payload) bytes numbers (delivered r bytes numbers)
unfolding delivered one_of
delivered-by (not_read why) bytes numbers t = (more 4 payload (number why) t, refl)
delivered-by (says first vs) bytes numbers t =
    let By : Delivery → Type 0 = RefusesBoth (4 ∷ payload) bytes numbers in
    choice By (ltb (length bytes) (length (packed vs))) (λ _. (tt, refl))
    (λ _. choice By (ltb (length numbers) (length (recorded 0 vs))) (λ _. (tt, refl)) (λ _. tt))

pub reads-payloads : (p bytes numbers : List ℕ) → RefusesBoth (4 ∷ payload) bytes numbers (read_into p bytes numbers)
reads-payloads p bytes numbers = delivered-by (reading_of p) bytes numbers (reading-by p)

-- what it is made of
pub reads-variables : (first : ℕ) (rest bytes numbers : List ℕ)
    → RefusesBoth (4 ∷ payload) bytes numbers (read_after first rest bytes numbers)
unfolding read_after one_of
reads-variables first rest bytes numbers =
    choice (RefusesBoth (4 ∷ payload) bytes numbers) (ltb payload_limit (length (first ∷ rest))) (λ _. (tt, refl))
    (λ _. delivered-by _ bytes numbers (rest-by first rest))

module _ (first : ℕ) (texts records bytes numbers : List ℕ) where
  handed-by : (ms : List ℕ) → T (one_of ms no_room)
      → RefusesBoth ms bytes numbers (hand_over first texts records bytes numbers)
  unfolding hand_over
  handed-by ms four =
      choice (RefusesBoth ms bytes numbers) (ltb (length bytes) (length texts)) (λ _. (four, refl))
      (λ _. choice (RefusesBoth ms bytes numbers) (ltb (length numbers) (length records)) (λ _. (four, refl)) (λ _. tt))

  pub hands-over : RefusesBoth (4 ∷ []) bytes numbers (hand_over first texts records bytes numbers)
  unfolding one_of
  hands-over = handed-by (4 ∷ []) tt

  pub delivers : RefusesBoth (25 ∷ 4 ∷ []) bytes numbers (deliver_read first texts records bytes numbers)
  unfolding deliver_read one_of
  delivers =
      choice (RefusesBoth (25 ∷ 4 ∷ []) bytes numbers) (repeated (variables_held texts records)) (λ _. (tt, refl))
      (λ _. handed-by (25 ∷ 4 ∷ []) tt)

-- the reader into a list of records
abbrev ListsBy : List ℕ → List VariableRecord → Listing (Outcome (Result Payload Refusal)) → Type 0
ListsBy bytes list d = Refuses (4 ∷ payload) {L = List ℕ × List VariableRecord} (bytes, list) (d.answer.lent, d.records) (refusal_number d.answer.answer)

listed_by : (r : Reading) (bytes : List ℕ) (list : List VariableRecord) → ReadingBy r → ListsBy bytes list (listed r bytes list)
unfolding listed one_of
listed_by (not_read why) bytes list t = (more 4 payload (number why) t, refl)
listed_by (says first vs) bytes list t =
    choice (ListsBy bytes list) (ltb (length bytes) (length (packed vs))) (λ _. (tt, refl))
    (λ _. choice (ListsBy bytes list) (ltb (length list) (length vs)) (λ _. (tt, refl)) (λ _. tt))

pub reads-lists : (p bytes : List ℕ) (list : List VariableRecord) → ListsBy bytes list (read_records p bytes list)
reads-lists p bytes list = listed_by (reading_of p) bytes list (reading-by p)

-- the writer
abbrev numbers : List ℕ
numbers = 20 ∷ 27 ∷ 21 ∷ 24 ∷ 25 ∷ 3 ∷ 4 ∷ []

abbrev ObjectionBy : Objection → Type 0
ObjectionBy none = Unit {0}
ObjectionBy (against why) = T (one_of numbers (number why))

objection-by : (first : ℕ) (vs : List Variable) → ObjectionBy (objection first vs)
unfolding objection one_of
objection-by first vs =
    choice ObjectionBy (nameless vs) (λ _. tt)
    (λ _. choice ObjectionBy (ltb variable_limit (length vs)) (λ _. tt)
    (λ _. choice ObjectionBy (repeated vs) (λ _. tt)
    (λ _. choice ObjectionBy (ltb payload_limit (length (payload_of first vs))) (λ _. tt) (λ _. tt))))

put-by : (o : Objection) (p out : List ℕ) → ObjectionBy o → RefusesInto numbers refusal_number out (put o p out)
unfolding put one_of
put-by none p out t = written-by numbers tt p out
put-by (against why) p out t = (t, refl)

pub writes-payloads : (first : ℕ) (bytes list out : List ℕ) → RefusesInto numbers refusal_number out (write_into first bytes list out)
unfolding write_into one_of
writes-payloads first bytes list out =
    let vs = variables_held bytes list in
    choice (RefusesInto numbers refusal_number out) (not (is_first first)) (λ _. (tt, refl))
    (λ _. choice (RefusesInto numbers refusal_number out) (not (placed bytes list)) (λ _. (tt, refl))
    (λ _. put-by (objection first vs) (payload_of first vs) out (objection-by first vs)))
