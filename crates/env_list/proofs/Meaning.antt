-- The records of a list mean the variables of the payload: the theorem `Theorems.ListsTheVariables`. Assumes nothing.
use Rattle.std.specs.Prelude.{Ok, Err}
use mathlib.Core.Path.{◌≡◌, ap}
use mathlib.Core.List.{List, ◌++◌, map}
use Prim.Native.Nat.{ℕ, ◌≤◌}
use native.Mathlib.Omega.{arith}
use lib.Dec.{ltb}
use lib.ListN.{length, take, drop}
use lib.Seq.{take_at}
use borrow.Author.Tests.{ltb-false}
use Rattle.octets.specs.Lent.{overwrite}
use Rattle.env.specs.declared.VariableRecord.{VariableRecord}
use Rattle.env.specs.Variable.{Variable}
use Rattle.env.specs.Read.{Reading, says, not_read, reading_of}
use Rattle.env.specs.Numbers.{records_of, variable_of, packed, recorded, variables_held}
use Rattle.env.proofs.Holding.{length-recorded, holds-again}
use Rattle.env.proofs.Records.{length-records}
use Rattle.env_delivery.specs.declared.Payload.{Payload}
use Rattle.env_delivery.specs.Promise.{payload_read}
use Rattle.refusal.specs.declared.Refusal.{Refusal}
use Rattle.env_list.specs.Reading.{listed}
use Rattle.env_list.specs.Theorems.{ListsTheVariables}
use Rattle.env_list.proofs.Either.{either}

-- records of variables that are packed into a buffer mean those variables
records-packed : (bytes : List ℕ) (vs : List Variable) → length (packed vs) ≤ length bytes
    → map (variable_of (overwrite bytes 0 (packed vs))) (records_of (recorded 0 vs)) ≡ vs
unfolding variables_held
records-packed bytes vs h = (holds-again bytes 0 vs (omega arith)).0

-- no answer is a refusal and a reading
never : {A : Type 0} {k : Refusal} {p : Payload} → Err k ≡ Ok p → A
never e = let z : ◌≡◌ {A = ℕ} 0 1 = cc in absurd (omega arith)

lists : (r : Reading) (bytes : List ℕ) (list : List VariableRecord) (first count used : ℕ) → (listed r bytes list).answer.answer ≡ Ok (payload_read first count used)
    → r ≡ says first (map (variable_of (listed r bytes list).answer.lent) (take count (listed r bytes list).records))
unfolding listed
lists (not_read n) bytes list first count used = λ e. never e
lists (says f vs) bytes list first count used =
    either (ltb (length bytes) (length (packed vs))) (λ short. rw short (λ e. never e)) (λ fits. rw fits
    (either (ltb (length list) (length vs)) (λ short. rw short (λ e. never e)) (λ room. rw room (λ e.
    let p : payload_read f (length vs) (length (packed vs)) ≡ payload_read first count used = cc in
    let same_first = ap (λ (p : Payload). p.first) p in
    let counted = ap (λ (p : Payload). p.count) p in
    let records = records_of (recorded 0 vs) in
    let all : length records ≡ count = omega (arith, length-records (recorded 0 vs), length-recorded 0 vs) in
    let front : take count (records ++ drop (length vs) list) ≡ records = take_at records (drop (length vs) list) count all in
    rw (front, records-packed bytes vs (ltb-false (length bytes) (length (packed vs)) fits)) (ap (λ k. says k vs) same_first)))))

pub lists-the-variables : ListsTheVariables
lists-the-variables payload = lists (reading_of payload)
