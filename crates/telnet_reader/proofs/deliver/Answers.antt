-- `telnet_reader::deliver` meets its contract: it delivers what `look` finds. Assumes nothing.
use Rattle.std.specs.Prelude.{None, Some, Ok, Err}
use Rattle.std.proofs.lemmas.Result.{err_from_is_err_and}
use mathlib.Core.Path.{◌≡◌, sym, ap, subst, ◌∙◌}
use mathlib.Core.List.{List}
use Prim.Native.Nat.{ℕ, ◌+◌, ◌≤◌}
use native.Mathlib.Omega.{arith}
use lib.ListN.{length, drop}
use Rattle.octets.specs.Lent.{outcome, overwrite}
use Rattle.octets.proofs.Promise.{front-short, front_fits}
use Rattle.telnet.specs.Read.{data_run}
use Rattle.telnet_reader.specs.declared.Found.{Found}
use Rattle.telnet_reader.specs.Internal.Lead.{lead_in}
use Rattle.telnet_reader.specs.Promise.{Answer, look_at, read_at}
use Rattle.telnet_data.specs.Promise.{count}
use Rattle.telnet_data.proofs.Copies.{run-whole}
use Rattle.telnet_reader.proofs.Carried.{Placed, looked-placed, delivering, read-delivers}
use Rattle.telnet_reader.proofs.deliver.Goals.{In-Some}
use Rattle.telnet_reader.proofs.deliver.Goals as goal

-- what is left, where `look` answers r
leaves : (s : List ℕ) (at : ℕ) (out : List ℕ) (r : Answer) → r ≡ look_at s at → read_at s at out ≡ delivering s at out r
leaves s at out r e = read-delivers s at out ∙ ap (delivering s at out) (sym e)

-- what `look` found
looked : (c : In-Some) → Ok (Some c.in-Some.found) ≡ look_at c.args.s.now c.args.at
looked c = ap Ok (sym c.in-Some.is) ∙ sym c.in_ok-found.was ∙ c.look.ensures

placed : (c : In-Some) → Placed c.args.s.now c.args.at (Ok (Some c.in-Some.found))
placed c = subst (Placed c.args.s.now c.args.at) (sym (looked c)) (looked-placed c.args.s.now c.args.at)

pub returns-in_err-found : goal.returns-in_err-found
returns-in_err-found c =
    let a = c.args in
    let p = err_from_is_err_and c.from_residual.result c.from_residual.ensures.1 in
    rw (p.1, p.2) (sym (leaves a.s.now a.at a.out.now (Err c.in_err-found.field-0.0) (sym c.in_err-found.was ∙ c.look.ensures)))

pub returns-in_default : goal.returns-in_default
returns-in_default c =
    let a = c.args in
    sym (leaves a.s.now a.at a.out.now (Ok None) (ap Ok (sym c.in_default.is) ∙ sym c.in_ok-found.was ∙ c.look.ensures))

pub returns-then-out-found : goal.returns-then-out-found
returns-then-out-found c =
    let a = c.args in
    let f = c.in-Some.found in
    let found = (goal.at.returns-then-out-found c).In-Some in
    sym (leaves a.s.now a.at a.out.now (Ok (Some f)) (looked found)
    ∙ front-short _ _ (data_run (drop (a.at + lead_in f.kind) a.s.now)) a.out.now (omega (arith, (placed found).1)))

pub data_place-requires : goal.data_place-requires
data_place-requires c = omega (arith, placed (goal.at.data_place-requires c).In-Some)

pub returns : goal.returns
unfolding count
returns c =
    let a = c.args in
    let f = c.in-Some.found in
    let found = (goal.at.returns c).In-Some in
    let from = c.data_place in
    let n = (placed found).1 ∙ ap (λ i. length (data_run (drop i a.s.now))) (sym from.ensures) in
    let whole = (run-whole a.s.now from.result a.out.now 0 c.copy_run.ensures (omega (arith, n))).lent in
    ap (outcome (Ok (Some f))) (whole ∙ ap (λ i. overwrite a.out.now 0 (data_run (drop i a.s.now))) from.ensures)
    ∙ sym (leaves a.s.now a.at a.out.now (Ok (Some f)) (looked found)
    ∙ front_fits _ _ (data_run (drop (a.at + lead_in f.kind) a.s.now)) a.out.now (omega (arith, (placed found).1)))
