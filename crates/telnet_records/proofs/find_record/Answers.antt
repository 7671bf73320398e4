-- `telnet_records::find_record` meets its contract. The invariant: from here on, after the bytes counted, the record is
-- the one from the start. The measure is what is left of the line. Assumes nothing.
use Rattle.std.specs.Prelude.{◌≡◌, Some, Ok}
use Rattle.std.proofs.lemmas.Result.{err_from_is_err_and}
use mathlib.Core.Path.{sym, ap, ◌∙◌}
use native.Mathlib.Omega.{arith}
use Prim.Native.Nat.{◌+◌, ◌≤◌, ◌<◌}
use lib.ListN.{length}
use Rattle.telnet_reader.specs.Promise.{look_at}
use Rattle.telnet_records.specs.Internal.Gather.{sized_at}
use Rattle.telnet_records.proofs.Gathering.{sized-end, sized-refused, sized-ends, sized-goes, found-further}
use Rattle.telnet_records.proofs.find_record.Goals.{In-Some, After-data_length-n}
use Rattle.telnet_records.proofs.find_record.Goals as goal

-- the event of a turn
looked : (c : In-Some) → look_at c.args.s.now c.loop-found.i ≡ Ok (Some c.in-Some.found)
looked c = sym c.look.ensures ∙ c.in_ok-found.was ∙ ap Ok c.in-Some.is

-- it lies ahead and within the bytes
further : (c : After-data_length-n)
    → (c.loop-found.i < c.in-Some.found.next)
    × (c.in-Some.found.next ≤ length c.args.s.now)
    × (c.loop-found.i + c.data_length-n.result ≤ c.in-Some.found.next)
further c =
    let l = c.loop-found in
    let found = c.in-Some.found in
    let f = found-further c.args.s.now l.i l.invariant.0 found.kind found.length found.next (sym c.look.ensures ∙ c.in_ok-found.was ∙ ap Ok c.in-Some.is) in
    (f.0, f.1, omega (arith, f, c.data_length-n.ensures))

pub returns-in_err-found : goal.returns-in_err-found
returns-in_err-found c =
    let l = c.loop-found in
    let p = err_from_is_err_and c.from_residual.result c.from_residual.ensures.1 in
    rw (p.1, p.2)
    (sym (sized-refused c.args.s.now l.i l.invariant.0 l.n c.in_err-found.field-0.0 (sym c.look.ensures ∙ c.in_err-found.was)) ∙ l.invariant.2)

pub returns-then-ends_record : goal.returns-then-ends_record
returns-then-ends_record c =
    let l = c.loop-found in
    let found = c.in-Some.found in
    sym (sized-ends c.args.s.now l.i l.invariant.0 l.n found.kind found.length found.next (looked (goal.at.returns-then-ends_record c).In-Some)
    (sym c.ends_record.ensures ∙ c.if-ends_record.true))
    ∙ l.invariant.2

pub overflow_add-n : goal.overflow_add-n
overflow_add-n c = omega (arith, c.loop-found.invariant.1, further (goal.at.overflow_add-n c).After-data_length-n)

pub loop-found-smaller : goal.loop-found-smaller
loop-found-smaller c = omega (arith, further (goal.at.loop-found-smaller c).After-data_length-n)

pub loop-found-preserved : goal.loop-found-preserved
loop-found-preserved c =
    let l = c.loop-found in
    let found = c.in-Some.found in
    let f = further (goal.at.loop-found-preserved c).After-data_length-n in
    let goes = sized-goes c.args.s.now l.i l.invariant.0 l.n found.kind found.length found.next (looked (goal.at.loop-found-preserved c).In-Some)
    (sym c.ends_record.ensures ∙ c.if-ends_record.false) in (
      f.1,
      omega (arith, l.invariant.1, f),
      ap (λ m. sized_at c.args.s.now (l.n + m) found.next) c.data_length-n.ensures ∙ sym goes ∙ l.invariant.2,
    )

pub returns : goal.returns
returns c =
    let l = c.loop-found in
    sym (sized-end c.args.s.now l.i l.invariant.0 l.n (sym c.look.ensures ∙ c.in_ok-found.was ∙ ap Ok c.in_default.is)) ∙ l.invariant.2
