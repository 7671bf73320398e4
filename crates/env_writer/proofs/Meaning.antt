-- What the writer's answer means: the theorem `Theorems.WroteReadsBack`. Assumes nothing.
use Rattle.std.specs.Prelude.{Result, Ok, Err}
use mathlib.Core.Path.{◌≡◌, refl}
use mathlib.Core.Bool.{not}
use mathlib.Core.List.{List, [], ◌∷◌, map}
use Prim.Native.Nat.{ℕ}
use borrow.Author.Tests.{not-false}
use lib.Dec.{T}
use lib.ListN.{take}
use mir.Facts.{and_yes, yes_and}
use denote.Floats.{passes}
use Rattle.octets.specs.Lent.{Outcome, outcome}
use Rattle.octets.proofs.Choice.{choice}
use Rattle.env.specs.declared.VariableRecord.{VariableRecord}
use Rattle.env.specs.Variable.{is_first, is_kind}
use Rattle.env.specs.Read.{reading_of, says}
use Rattle.env.specs.Write.{Objection, none, against, objection, payload_of, kinds_good}
use Rattle.env.specs.Numbers.{records_of, variable_of, variables_held, is_placed, all_placed, placed}
use Rattle.env.proofs.ReadingBack.{reads-back}
use Rattle.refusal.specs.declared.Refusal.{Refusal}
use Rattle.refusal.proofs.Writing.{not-wrote, wrote-front}
use Rattle.env_writer.specs.Promise.{put, write_into}
use Rattle.env_writer.specs.Theorems.{WroteReadsBack}

-- records that are placed have variables of good kinds
kinds-of : (bytes : List ℕ) (rs : List VariableRecord) → T (all_placed bytes rs) → T (kinds_good (map (variable_of bytes) rs))
unfolding all_placed kinds_good
kinds-of bytes [] t = tt
kinds-of bytes (r ∷ rs) t =
    let y = and_yes (is_placed bytes r) (all_placed bytes rs) t in
    yes_and (is_kind r.kind) _ (and_yes (is_kind r.kind) _ y.0).0 (kinds-of bytes rs y.1)

module _ (first : ℕ) (bytes numbers out : List ℕ) where
  -- an answer that means what was written
  abbrev Means : Outcome (Result ℕ Refusal) → Type 0
  Means o = (n : ℕ) → o.answer ≡ Ok n → reading_of (take n o.lent) ≡ says first (variables_held bytes numbers)

  refused-means : (m : Refusal) → Means (outcome (Err m) out)
  refused-means m n e = not-wrote e

  put-means : (o : Objection) → objection first (variables_held bytes numbers) ≡ o → T (is_first first) → T (placed bytes numbers)
      → Means (put o (payload_of first (variables_held bytes numbers)) out)
  unfolding put placed variables_held
  put-means (against m) e f p = refused-means m
  put-means none e f p =
      let payload = payload_of first (variables_held bytes numbers) in
      let back = reads-back first (variables_held bytes numbers) (record { begins = f; kinds = kinds-of bytes (records_of numbers) p; unobjected = e }) in
      λ n w. rw (wrote-front payload out n w).1 back

  written-means : Means (write_into first bytes numbers out)
  unfolding write_into
  written-means =
      choice Means (not (is_first first)) (λ _. refused-means _)
      (λ f. choice Means (not (placed bytes numbers)) (λ _. refused-means _)
      (λ p. put-means _ refl (passes _ (not-false (is_first first) f)) (passes _ (not-false (placed bytes numbers) p))))

pub wrote-reads-back : WroteReadsBack
wrote-reads-back = written-means
