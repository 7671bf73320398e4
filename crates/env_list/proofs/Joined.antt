-- What is delivered as numbers, listed as records: the numbers of a delivery, set in front of a list with the same
-- room, are what `read_records` says. Assumes nothing.
use Rattle.std.specs.Prelude.{Result, Ok}
use mathlib.Core.Path.{◌≡◌, refl, ap, ◌∙◌}
use mathlib.Core.List.{List, ◌++◌, append_assoc}
use Prim.Native.Nat.{ℕ, ◌+◌, ◌*◌, ◌≤◌, ◌<◌}
use native.Mathlib.Omega.{arith}
use lib.Dec.{ltb}
use lib.ListN.{length, take, drop, length-take, length-append}
use lib.Seq.{take_at}
use borrow.Author.Tests.{ltb-false}
use Rattle.env_list.specs.Internal.Firsts.{first_records, count_of, Numbered}
use Rattle.octets.proofs.Order.{ltb_iff}
use Rattle.octets.specs.Lent.{outcome, overwrite}
use Rattle.env.specs.Variable.{Variable, variable_limit}
use Rattle.env.specs.Read.{Reading, says, not_read, reading_of}
use Rattle.env.specs.Numbers.{record_width, list_limit, records_of, packed, recorded}
use Rattle.env.proofs.Holding.{length-recorded, recorded-before}
use Rattle.env.proofs.Records.{length-records}
use Rattle.env.proofs.Sound.{Reads, reads}
use Rattle.env.specs.declared.VariableRecord.{VariableRecord}
use Rattle.env_delivery.specs.declared.Payload.{Payload}
use Rattle.refusal.specs.declared.Refusal.{Refusal}
use Rattle.env_delivery.specs.Promise.{payload_read, delivery, delivered, read_into}
use Rattle.env_list.specs.Lists.{listing}
use Rattle.env_list.specs.Reading.{listed}
use Rattle.env_list.proofs.Firsts.{begun, firsts-front}
use Rattle.env_list.proofs.Either.{either}

-- the first records of variables, whatever numbers are after theirs, are all of them
firsts-recorded : (vs : List Variable) (nums rest : List ℕ)
    → first_records (overwrite nums 0 (recorded 0 vs) ++ rest) (length vs) ≡ records_of (recorded 0 vs)
unfolding overwrite
firsts-recorded vs nums rest =
    let more = drop (0 + length (recorded 0 vs)) nums ++ rest in
    let records = records_of (recorded 0 vs) in
    let all : length records ≡ length vs = omega (arith, length-records (recorded 0 vs), length-recorded 0 vs) in
    let apart = recorded-before 0 vs more in
    rw (append_assoc (recorded 0 vs) (drop (0 + length (recorded 0 vs)) nums) rest)
    (firsts-front (recorded 0 vs ++ more) (length vs) (rw (apart, length-append) (omega (arith, all)))
    ∙ ap (take (length vs)) apart
    ∙ take_at records (records_of more) (length vs) all)

-- numbers and a list of records have room for the same number of variables
abbrev pub SameRoom : List ℕ → ℕ → Type 0
SameRoom nums room = (n : ℕ) → n ≤ variable_limit → ltb (length nums) (record_width * n) ≡ ltb room n

-- numbers for as many records as a payload has, cut to those of fewer, or whole
pub cut-room : (nums : List ℕ) (k room : ℕ) → length nums ≡ list_limit → k ≡ record_width * room → room < variable_limit → SameRoom (take k nums) room
cut-room nums k room size cut h n few =
    let e : length (take k nums) ≡ record_width * room = rw length-take (omega arith) in
    ltb_iff (length (take k nums)) (record_width * n) room n (λ g. omega (arith, e)) (λ g. omega (arith, e))

pub whole_room : (nums : List ℕ) (room : ℕ) → length nums ≡ list_limit → variable_limit ≤ room → SameRoom nums room
whole_room nums room size h n few = ltb_iff (length nums) (record_width * n) room n (λ g. omega arith) (λ g. omega arith)

abbrev Joins : Reading → List ℕ → List ℕ → List ℕ → List VariableRecord → Type 0
Joins r bytes nums rest list =
    let d = delivered r bytes nums in
    (count_of d.answer ≤ length list) × (listing (outcome d.answer d.bytes) (begun (d.numbers ++ rest) (count_of d.answer) list) ≡ listed r bytes list)

joins : (r : Reading) (bytes nums rest : List ℕ) (list : List VariableRecord) → SameRoom nums (length list)
    → Reads r → Joins r bytes nums rest list
unfolding delivered listed count_of first_records
joins (not_read n) bytes nums rest list same said = (omega arith, refl)
joins (says first vs) bytes nums rest list same said =
    let counted = length-recorded 0 vs in
    let few : length vs ≤ variable_limit = omega (arith, said.sound.few) in
    either (ltb (length bytes) (length (packed vs))) (λ e. rw e (omega arith, refl)) (λ e.
    rw (e, counted, same (length vs) few)
    (either (ltb (length list) (length vs)) (λ f. rw f (omega arith, refl)) (λ f. rw f (
      ltb-false (length list) (length vs) f,
      ap (λ l. listing (outcome (Ok (payload_read first (length vs) (length (packed vs)))) (overwrite bytes 0 (packed vs))) (l ++ drop (length vs) list))
          (firsts-recorded vs nums rest),
    ))))

-- a delivery into numbers with the same room as a list
pub numbered : (payload bytes nums rest : List ℕ) (room : ℕ) (r : Result Payload Refusal) (left nums' : List ℕ) → SameRoom nums room
    → delivery r left nums' ≡ read_into payload bytes nums → Numbered payload bytes room r left (nums' ++ rest)
numbered payload bytes nums rest room r left nums' same e list size =
    let a : r ≡ (read_into payload bytes nums).answer = ap (λ d. d.answer) e in
    let b : left ≡ (read_into payload bytes nums).bytes = ap (λ d. d.bytes) e in
    let c : nums' ≡ (read_into payload bytes nums).numbers = ap (λ d. d.numbers) e in
    rw (a, b, c, ← size) (joins (reading_of payload) bytes nums rest list (rw size same) (reads payload))
