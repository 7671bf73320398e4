-- `telnet_records::read_record` meets its contract: it keeps what `find_record` finds. Assumes nothing.
use Rattle.std.specs.Prelude.{None, Some, Ok, Err}
use Rattle.std.proofs.lemmas.Result.{err_from_is_err_and}
use mathlib.Core.Path.{◌≡◌, sym, ap, ap₂, ◌∙◌}
use mathlib.Core.List.{List}
use Prim.Native.Nat.{ℕ, ◌≤◌}
use native.Mathlib.Omega.{arith}
use lib.ListN.{length}
use Rattle.octets.specs.Lent.{outcome}
use Rattle.octets.proofs.Promise.{front-short, front_fits}
use Rattle.telnet_records.specs.Promise.{Answer, record_found, record_at}
use Rattle.telnet_records.specs.Internal.Gather.{sized_at, data_at}
use Rattle.telnet_records.proofs.Gathering.{keeping, record-past, record-kept, found-length}
use Rattle.telnet_records.proofs.read_record.Goals.{In-Some}
use Rattle.telnet_records.proofs.read_record.Goals as goal

-- what is left, where `find_record` answers r
leaves : (s : List ℕ) (at : ℕ) (out : List ℕ) (r : Answer) → at ≤ length s → sized_at s 0 at ≡ r → record_at s at out ≡ keeping s at out r
leaves s at out r h e = record-kept s at out h ∙ ap (keeping s at out) e

-- the record that was found
sized-is : (c : In-Some) → sized_at c.args.s.now 0 c.args.at ≡ Ok (Some c.in-Some.record)
sized-is c = sym c.find_record.ensures ∙ c.in_ok-record.was ∙ ap Ok c.in-Some.is

its-length : (c : In-Some) → c.in-Some.record.length ≡ length (data_at c.args.s.now c.args.at)
its-length c = found-length c.args.s.now c.args.at c.in-Some.record.length c.in-Some.record.next (sized-is c)

pub returns-then-s-at : goal.returns-then-s-at
returns-then-s-at c =
    let a = c.args in
    sym (record-past a.s.now a.at a.out.now (omega arith))

pub returns-in_err-record : goal.returns-in_err-record
returns-in_err-record c =
    let a = c.args in
    let p = err_from_is_err_and c.from_residual.result c.from_residual.ensures.1 in
    rw (p.1, p.2)
    (sym (leaves a.s.now a.at a.out.now (Err c.in_err-record.field-0.0) (omega arith) (sym c.find_record.ensures ∙ c.in_err-record.was)))

pub returns-in_default : goal.returns-in_default
returns-in_default c =
    let a = c.args in
    sym (leaves a.s.now a.at a.out.now (Ok None) (omega arith) (sym c.find_record.ensures ∙ c.in_ok-record.was ∙ ap Ok c.in_default.is))

pub returns-then-out-record : goal.returns-then-out-record
returns-then-out-record c =
    let a = c.args in
    let found = (goal.at.returns-then-out-record c).In-Some in
    sym (leaves a.s.now a.at a.out.now (Ok (Some c.in-Some.record)) (omega arith) (sized-is found)
    ∙ front-short _ _ (data_at a.s.now a.at) a.out.now (omega (arith, its-length found)))

pub copy_record-requires : goal.copy_record-requires
copy_record-requires c = (omega arith, its-length (goal.at.copy_record-requires c).In-Some, omega arith)

pub returns : goal.returns
returns c =
    let a = c.args in
    let r = c.in-Some.record in
    let found = (goal.at.returns c).In-Some in
    let tell : ℕ → Answer = λ length. record_found length r.next in
    ap₂ outcome (ap tell (its-length found)) c.copy_record.ensures
    ∙ sym (leaves a.s.now a.at a.out.now (tell r.length) (omega arith) (sized-is found)
    ∙ front_fits _ _ (data_at a.s.now a.at) a.out.now (omega (arith, its-length found)))
