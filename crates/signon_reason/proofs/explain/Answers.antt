-- `signon_reason::explain` meets its contract: 35, then the table, then the payload. Assumes nothing.
use mathlib.Core.Path.{◌≡◌, ◌∙◌}
use Prim.Native.Nat.{◌*◌, ◌≤◌}
use native.Mathlib.Omega.{arith}
use native.Mathlib.Nat.{sub-zero}
use borrow.Author.Tests.{eq-eqb, ne_eqb}
use lib.ListN.{length}
use Rattle.env.specs.Read.{not_read, reading_of}
use Rattle.env.specs.Numbers.{record_width, list_limit}
use Rattle.telnet.specs.Event.{payload_limit}
use Rattle.profile.specs.Table.{table_of}
use Rattle.password_check.specs.Gives.{seed_length}
use Rattle.signon.specs.Reason.{explain_of}
use Rattle.signon_reason.proofs.Deciding.{any-first}
use Rattle.signon_reason.proofs.Payloads.{within, said}
use Rattle.signon_reason.proofs.explain.Goals.{In-Ok}
use Rattle.signon_reason.proofs.explain.Goals as goal

pub returns-then-server_seed-ne-SEED_LENGTH : goal.returns-then-server_seed-ne-SEED_LENGTH
unfolding explain_of
returns-then-server_seed-ne-SEED_LENGTH c = rw (ne_eqb (length c.args.server_seed.now) seed_length c.if-server_seed-ne-SEED_LENGTH.true)

-- what was read lies within the room
room : (c : In-Ok) → (c.in-Ok.read.used ≤ payload_limit) × (record_width * c.in-Ok.read.count ≤ list_limit)
room c =
    let r = c.read in
    within c.args.payload.now r.result r.new.bytes r.new.numbers r.ensures _ c.in-Ok.is

pub overflow_mul-variables : goal.overflow_mul-variables
overflow_mul-variables c = let w = room (goal.at.overflow_mul-variables c).In-Ok in omega arith

pub slice_bounds-variables-end : goal.slice_bounds-variables-end
slice_bounds-variables-end c = let w = room (goal.at.slice_bounds-variables-end c).In-Ok in omega arith

pub slice_bounds-decide-end : goal.slice_bounds-decide-end
slice_bounds-decide-end c = let w = room (goal.at.slice_bounds-decide-end c).In-Ok in omega arith

pub returns-in-Err : goal.returns-in-Err
unfolding explain_of
returns-in-Err c =
    let a = c.args in
    let r = c.read in
    let refused : reading_of a.payload.now ≡ not_read c.in-Err.refusal =
    within a.payload.now r.result r.new.bytes r.new.numbers r.ensures _ c.in-Err.is in
    rw (eq-eqb (length a.server_seed.now) seed_length (omega arith), refused) (c.refuse.ensures a.server_seed.now)

pub returns-in-Ok : goal.returns-in-Ok
unfolding explain_of
returns-in-Ok c =
    let a = c.args in
    let r = c.read in
    let read = said a.payload.now r.result r.new.bytes r.new.numbers r.ensures c.in-Ok.read c.in-Ok.is in
    rw (eq-eqb (length a.server_seed.now) seed_length (omega arith), read)
    ((rw (sub-zero, sub-zero) at c.decide.ensures) ∙ any-first a.server_seed.now (table_of a.table.now) c.in-Ok.read.first _)
