-- What `write_into` answers, by the first of its tests that refuses. Assumes nothing.
use Rattle.std.specs.Prelude.{Ok, Err}
use mathlib.Core.Path.{◌≡◌, sym, ◌∙◌}
use mathlib.Core.Bool.{true, false}
use mathlib.Core.List.{List}
use Prim.Native.Nat.{ℕ, ◌+◌, ◌/◌, min, ◌≤◌, ◌<◌}
use native.Mathlib.Omega.{arith}
use lib.ListN.{length, set, length-set}
use borrow.Author.Tests.{lt-ltb, le-ltb}
use Rattle.refusal.specs.declared.Refusal.{Refusal}
use Rattle.env_writer.specs.Promise.{put, write_into}
use Rattle.env.specs.Variable.{is_first, variable_limit, repeated}
use Rattle.env.specs.Write.{none, against, nameless, objection, payload_of, written_variables}
use Rattle.env.specs.Numbers.{record_width, variables_held, placed}
use Rattle.env_records.proofs.Held.{length-held}
use Rattle.telnet.specs.Event.{payload_limit}
use Rattle.refusal.specs.declared.Refusal.TheVariants.{PayloadTooLong, NoRoom, NotIsOrInfo, NoVariable, TooManyVariables, RepeatedVariable, BadVariableRecord}
use Rattle.octets.specs.Lent.{outcome, overwrite}
use Rattle.octets.proofs.Overwrite.{overwrite-cons}
use Rattle.octets.proofs.Promise.{front-short, front_fits}

module _ (first : ℕ) (bytes l out : List ℕ) where
  pub not_first : is_first first ≡ false → outcome (Err NotIsOrInfo) out ≡ write_into first bytes l out
  unfolding write_into
  not_first e = rw e

  pub not-placed : is_first first ≡ true → placed bytes l ≡ false → outcome (Err BadVariableRecord) out ≡ write_into first bytes l out
  unfolding write_into
  not-placed e p = rw (e, p)

-- good records, by what is held against their variables
module _ (first : ℕ) (bytes l out : List ℕ) (e : is_first first ≡ true) (p : placed bytes l ≡ true) where
  not_read : {n : Refusal} → objection first (variables_held bytes l) ≡ against n → outcome (Err n) out ≡ write_into first bytes l out
  unfolding write_into put
  not_read o = rw (e, p, o)

  pub no_name : nameless (variables_held bytes l) ≡ true → outcome (Err NoVariable) out ≡ write_into first bytes l out
  unfolding objection
  no_name n = not_read (rw n)

  pub too_many : nameless (variables_held bytes l) ≡ false → variable_limit < length l / record_width → outcome (Err TooManyVariables) out ≡ write_into first bytes l out
  unfolding objection
  too_many n m = not_read (rw (n, lt-ltb variable_limit (length (variables_held bytes l)) (omega (arith, length-held bytes l))))

  pub twice : nameless (variables_held bytes l) ≡ false → length l / record_width ≤ variable_limit → repeated (variables_held bytes l) ≡ true
      → outcome (Err RepeatedVariable) out ≡ write_into first bytes l out
  unfolding objection
  twice n m r = not_read (rw (n, le-ltb variable_limit (length (variables_held bytes l)) (omega (arith, length-held bytes l)), r))

-- good records and nothing against their variables but, perhaps, the length of the payload, which is measured up to one
-- past the limit
module _ (first : ℕ) (bytes l out : List ℕ) (e : is_first first ≡ true) (p : placed bytes l ≡ true)
    (n : nameless (variables_held bytes l) ≡ false) (m : length l / record_width ≤ variable_limit) (r : repeated (variables_held bytes l) ≡ false)
    (k : ℕ) (measured : k ≡ min (payload_limit + 1) (1 + length (written_variables (variables_held bytes l)))) where
  few : length (variables_held bytes l) ≤ variable_limit
  few = omega (arith, length-held bytes l)

  pub too_long : payload_limit < k → outcome (Err PayloadTooLong) out ≡ write_into first bytes l out
  unfolding objection
  too_long h =
      let long : payload_limit < length (payload_of first (variables_held bytes l)) = omega arith in
      not_read first bytes l out e p
      (rw (n, le-ltb variable_limit (length (variables_held bytes l)) few, r, lt-ltb payload_limit (length (payload_of first (variables_held bytes l))) long))

  fine : k ≤ payload_limit → objection first (variables_held bytes l) ≡ none
  unfolding objection
  fine h =
      let short : length (payload_of first (variables_held bytes l)) ≤ payload_limit = omega arith in
      rw (n, le-ltb variable_limit (length (variables_held bytes l)) few, r, le-ltb payload_limit (length (payload_of first (variables_held bytes l))) short)

  pub no-space : k ≤ payload_limit → length out < k → outcome (Err NoRoom) out ≡ write_into first bytes l out
  unfolding write_into put
  no-space h g =
      rw (e, p, fine h) (sym (front-short _ _ (payload_of first (variables_held bytes l)) out (omega arith)))

  -- the variables fit after the first byte
  pub space : k ≤ payload_limit → k ≤ length out → 1 + length (written_variables (variables_held bytes l)) ≤ length (set out 0 first)
  space h g = rw length-set (omega arith)

  pub wrote : k ≤ payload_limit → k ≤ length out → {o : List ℕ} → o ≡ overwrite (set out 0 first) 1 (written_variables (variables_held bytes l))
      → outcome (Ok k) o ≡ write_into first bytes l out
  unfolding write_into put
  wrote h g there =
      let same : k ≡ length (payload_of first (variables_held bytes l)) = omega arith in
      let whole = there ∙ overwrite-cons out 0 first (written_variables (variables_held bytes l)) (omega arith) in
      rw (e, p, fine h, same, whole) (sym (front_fits _ _ (payload_of first (variables_held bytes l)) out (omega arith)))
