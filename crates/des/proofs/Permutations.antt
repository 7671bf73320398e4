-- The final permutation undoes the initial one (`Theorems.FinalUndoesInitial`): one after the other they are linear,
-- and leave each of the 64 bits where it is. Assumes nothing.
use lib.Dec.{T}
use Rattle.des.specs.Blocks.{continued, permuted}
use Rattle.des.specs.Tables.{IP, IP⁻¹}
use Rattle.des.specs.Theorems.{FinalUndoesInitial}
use Rattle.des.proofs.Linear.{as-it-is, after, table, same, agree}

each-bit : T (same (λ x. permuted 64 IP⁻¹ (permuted 64 IP x)) (λ x. x) 64)
unfolding permuted continued
each-bit = tt

pub final-undoes-initial : FinalUndoesInitial
final-undoes-initial x h = agree (after (table 64 IP⁻¹) (table 64 IP)) as-it-is 64 each-bit x h
