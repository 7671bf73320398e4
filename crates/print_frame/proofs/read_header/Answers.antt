-- `print_frame::read_header` meets its contract: at each `return` the tests of `header_of` up to it are decided. Assumes
-- nothing.
use Rattle.std.proofs.Common.{◌≡◌, refl, sym, ◌∙◌, ℕ, ◌-◌, ◌≤◌, Bool, true, false, List, Result, Ok, Err, arith, if◌then◌else◌}
use Rattle.std.proofs.lemmas.Result.{err_from_is_err_and}
use borrow.Author.Tests.{le-ltb}
use Rattle.refusal.specs.declared.Refusal.{Refusal}
use Rattle.refusal.specs.declared.Refusal.TheVariants.{BadOperation}
use Rattle.print_frame.specs.declared.Operation.{Operation}
use Rattle.print_frame.specs.Frame.{byte, structure_length, header_length, data_place, is_reserved, is_operation, operation_of, said, header_of}
use Rattle.print_frame.proofs.Masks.{one_bit}
use Rattle.print_frame.proofs.read_header.Goals as goal

-- a header whose lengths and flags are right, by its operation code
by-code : (f : List ℕ) (t : Bool)
    → 4 ≤ header_length f → data_place f ≤ structure_length f → is_reserved (byte f 7) (byte f 8) ≡ false → is_operation (byte f 9) ≡ t
    → header_of f ≡ (if t then Ok (said f) else Err BadOperation)
unfolding header_of
by-code f true low within flags code = rw (le-ltb (header_length f) 4 low, le-ltb (structure_length f) (data_place f) within, flags, code)
by-code f false low within flags code = rw (le-ltb (header_length f) 4 low, le-ltb (structure_length f) (data_place f) within, flags, code)

-- what is answered of a code says whether it is one
module _ (o : Operation) where
  is_code : (t : Bool) (p : Operation) → ◌≡◌ {A = Result Operation Refusal} (Ok o) (if t then Ok p else Err BadOperation) → (t ≡ true) × (o ≡ p)
  is_code true p e = (refl, cc)
  is_code false p e = (cc, cc)

no_code : (t : Bool) (p : Operation) (k : Refusal) → ◌≡◌ {A = Result Operation Refusal} (Err k) (if t then Ok p else Err BadOperation)
    → (t ≡ false) × (k ≡ BadOperation)
no_code true p k e = (cc, cc)
no_code false p k e = (refl, cc)

pub returns-in_err-operation : goal.returns-in_err-operation
returns-in_err-operation c =
    let f = c.args.frame.now in
    let k = no_code (is_operation (byte f 9)) (operation_of (byte f 9)) _ (c.in_err-operation.ensures) in
    let p = err_from_is_err_and c.from_residual.result c.from_residual.ensures.1 in
    rw (p.1, p.2, k.1) (sym (by-code f false (omega arith) (omega arith) (sym c.is_reserved.ensures ∙ c.if-is_reserved.false) k.0))

pub returns : goal.returns
returns c =
    let f = c.args.frame.now in
    let k = is_code c.in_ok-operation.operation (is_operation (byte f 9)) (operation_of (byte f 9)) (c.in_ok-operation.ensures) in
    let flags = sym c.is_reserved.ensures ∙ c.if-is_reserved.false in
    let long : c.from-header.result - 4 ≡ data_place f - 10 = omega arith in
    rw (by-code f true (omega arith) (omega arith) flags k.0, k.1, c.flags_of.ensures, c.requires.direction, one_bit (byte f 4) 4, long, c.from-header.ensures)
