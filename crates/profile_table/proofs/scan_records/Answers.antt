-- `profile_table::scan_records` meets its contract. The loop's invariant: what was counted and found up to `at`, with
-- what is read from there on, gives the scan of all records. The measure is what is left of the table. Assumes nothing.
use Rattle.std.specs.Prelude.{Option, Ok, Err}
use Rattle.std.proofs.lemmas.Result.{err_from_is_err_and}
use mathlib.Core.Path.{◌≡◌, refl, sym, ap, ap₂, ◌∙◌}
use mathlib.Core.List.{List}
use Prim.Native.Nat.{ℕ, ◌+◌, ◌≤◌}
use native.Mathlib.Omega.{arith}
use lib.ListN.{length, drop}
use Rattle.profile.specs.Profile.{record_length}
use Rattle.profile.specs.Table.{shape_in}
use Rattle.profile_record.proofs.Reading.{records_after, IsNext}
use Rattle.profile_table.specs.declared.Entry.{Entry}
use Rattle.profile_table.specs.Internal.Steps.{continued}
use Rattle.profile_table.proofs.Stepping.{ahead, kept-name, further, stepped, ended}
use Rattle.profile_table.proofs.scan_records.Goals.{In_ok-n}
use Rattle.profile_table.proofs.scan_records.Goals as goal

fixed : (c : In_ok-n) → c.record_length-fixed.result ≡ record_length (shape_in c.args.table.now) 0
fixed c = c.record_length-fixed.ensures

-- the record at the place, with the length of its name
next : (c : In_ok-n)
    → let l = c.loop-at in
    let table = c.args.table.now in IsNext (shape_in table) l.count l.before.now (drop l.at table) c.in_ok-n.n
next c =
    let l = c.loop-at in
    let table = c.args.table.now in
    stepped (shape_in table) table l.before.now l.at l.count _ (Ok c.in_ok-n.n) (omega arith) c.next_record.ensures c.in_ok-n.was

reach : (c : In_ok-n)
    → let table = c.args.table.now in c.loop-at.at + record_length (shape_in table) c.in_ok-n.n ≤ length table
reach c =
    let l = c.loop-at in
    let table = c.args.table.now in
    ahead (shape_in table) table c.args.name.now l.at l.count c.in_ok-n.n l.found l.before.now (next c) (omega arith)

pub loop-at-init : goal.loop-at-init
loop-at-init c = record { within = omega arith; few = omega arith; whole = refl }

pub returns-in_err-n : goal.returns-in_err-n
returns-in_err-n c =
    let l = c.loop-at in
    let table = c.args.table.now in
    let p = err_from_is_err_and c.from_residual.result c.from_residual.ensures.1 in
    let stop = stepped (shape_in table) table l.before.now l.at l.count _ (Err c.in_err-n.field-0.0) (omega arith) c.next_record.ensures c.in_err-n.was in
    rw (p.1, p.2) (sym (ap (continued c.args.name.now l.count l.at l.found) stop) ∙ l.invariant.whole)

pub find_here-found-requires : goal.find_here-found-requires
find_here-found-requires c =
    let k = (goal.at.find_here-found-requires c).In_ok-n in ((next k).named, omega (arith, reach k))

pub overflow_add-before-in-loop-at-2 : goal.overflow_add-before-in-loop-at-2
overflow_add-before-in-loop-at-2 c = omega (arith, reach (goal.at.overflow_add-before-in-loop-at-2 c).In_ok-n)

pub slice_bounds-before-end-in-loop-at : goal.slice_bounds-before-end-in-loop-at
slice_bounds-before-end-in-loop-at c = omega (arith, reach (goal.at.slice_bounds-before-end-in-loop-at c).In_ok-n)

pub overflow_add-at : goal.overflow_add-at
overflow_add-at c =
    let k = (goal.at.overflow_add-at c).In_ok-n in omega (arith, reach k, fixed k)

pub overflow_add-at-in-loop-at : goal.overflow_add-at-in-loop-at
overflow_add-at-in-loop-at c =
    let k = (goal.at.overflow_add-at-in-loop-at c).In_ok-n in omega (arith, reach k, fixed k)

pub loop-at-smaller : goal.loop-at-smaller
loop-at-smaller c =
    let k = (goal.at.loop-at-smaller c).In_ok-n in omega (arith, reach k, fixed k)

pub loop-at-preserved : goal.loop-at-preserved
loop-at-preserved c =
    let k = (goal.at.loop-at-preserved c).In_ok-n in
    let l = c.loop-at in
    let table = c.args.table.now in
    let s = shape_in table in
    let n = c.in_ok-n.n in
    let at : l.at + c.record_length-fixed.result + n ≡ l.at + record_length s n = omega (arith, fixed k) in
    let more = l.count + 1 in
    let end = l.at + record_length s n in
    record {
      within = omega (arith, reach k, fixed k);
      few = omega (arith, (next k).few);
      whole =
          rw at (ap₂ (λ (f : Option Entry) (b : List ℕ). continued c.args.name.now more end f (records_after s more b (drop end table)))
          c.find_here-found.ensures (kept-name table l.at n (next k).named)
          ∙ sym (further s table c.args.name.now l.at l.count n l.found l.before.now (next k))
          ∙ l.invariant.whole);
    }

pub returns : goal.returns
returns c =
    let l = c.loop-at in
    let s = c.args in
    let table = s.table.now in
    sym (ended (shape_in table) table s.name.now l.before.now l.at l.count l.found (omega arith)) ∙ l.invariant.whole
