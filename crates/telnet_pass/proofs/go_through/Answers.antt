-- `telnet_pass::go_through` meets its contract. The invariant: what was given so far and what is given from here on is the
-- whole call. The measure is what is left of the fragment. Assumes nothing.
use mathlib.Core.Path.{◌≡◌, ◌∙◌}
use Prim.Native.Nat.{◌+◌, ◌≤◌, ◌<◌}
use native.Mathlib.Omega.{arith}
use lib.ListN.{length, get_or, take, set, length-set}
use Rattle.telnet_fragments.specs.Promise.{happened}
use Rattle.telnet_stage.specs.declared.Act.TheVariants.{Keeps}
use Rattle.telnet_stage.proofs.Turning.{turn_is}
use Rattle.telnet_pass.proofs.Running.{waits-on, gives-on, stops-on, ends_on, one_more, was-ran}
use Rattle.telnet_pass.proofs.Stretching.{Copied, was-copied, copied-within, copied-room, copied-length, copied-after, past-set, data-run, kept_run}
use Rattle.telnet_pass.proofs.go_through.Goals.{After-copy_run-run, After-copy_run-run-in-Keeps, In-Keeps}
use Rattle.telnet_pass.proofs.go_through.Goals as goal

-- a byte is kept only where there is room
below : (c : In-Keeps) → c.loop-i.n < 1024
below c =
    let l = c.loop-i in
    (turn_is l.at l.n _ c.take_byte-t.result Keeps c.take_byte-t.ensures c.in-Keeps.is).0

-- the stretch that is copied after a byte of data
data-copied : (c : After-copy_run-run)
    → let l = c.loop-i in
    let s = c.args.s.now in
    Copied s (l.i + 1) (set l.out l.d (get_or s l.i 0)) (l.d + 1) c.copy_run-run.result c.copy_run-run.new.out
data-copied c =
    was-copied _ _ _ _ c.copy_run-run.ensures

-- and after one of a payload
kept-copied : (c : After-copy_run-run-in-Keeps)
    → let l = c.loop-i in
    let s = c.args.s.now in
    Copied s (l.i + 1) (set l.kept l.n (get_or s l.i 0)) (l.n + 1) c.copy_run-run-in-Keeps.result c.copy_run-run-in-Keeps.new.out
kept-copied c =
    was-copied _ _ _ _ c.copy_run-run-in-Keeps.ensures

pub loop-i-preserved-in-Waits : goal.loop-i-preserved-in-Waits
loop-i-preserved-in-Waits c =
    let l = c.loop-i in
    let s = c.args.s.now in
    let on = waits-on s l.i l.at l.n l.kept (take l.d l.out) _ l.invariant.5 c.take_byte-t.result (omega arith) l.invariant.2 c.take_byte-t.ensures c.in-Waits.is in
    (omega arith, omega arith, l.invariant.2, l.invariant.3, l.invariant.4, on)

-- the fragment ends with a byte of data
pub returns-then-s-i : goal.returns-then-s-i
unfolding happened
returns-then-s-i c =
    let l = c.loop-i in
    let a = c.args in
    let s = a.s.now in
    let b = get_or s l.i 0 in
    let m = one_more l.out a.out.now l.d b (omega arith) l.invariant.4 in
    let on = gives-on s l.i l.at l.n l.kept (take l.d l.out) _ l.invariant.5 c.take_byte-t.result (omega arith) l.invariant.2 c.take_byte-t.ensures c.in-Gives.is in
    rw c.run_of.ensures
    (was-ran _ _ _ _ _ _ _ _ (rw length-set (omega arith)) m.1 (omega arith) l.invariant.2
    (ends_on s (l.i + 1) c.take_byte-t.result.stage l.n l.kept (take (l.d + 1) (set l.out l.d b)) _ (rw m.0 on) (omega arith)))

pub overflow_add-d-in-Gives : goal.overflow_add-d-in-Gives
overflow_add-d-in-Gives c =
    let k = data-copied (goal.at.overflow_add-d-in-Gives c).After-copy_run-run in
    omega (arith, copied-within k (omega arith))

pub loop-i-smaller-in-Gives : goal.loop-i-smaller-in-Gives
loop-i-smaller-in-Gives c =
    omega (arith, copied-within (data-copied (goal.at.loop-i-smaller-in-Gives c).After-copy_run-run) (omega arith))

pub loop-i-preserved-in-Gives : goal.loop-i-preserved-in-Gives
loop-i-preserved-in-Gives c =
    let l = c.loop-i in
    let s = c.args.s.now in
    let q = set l.out l.d (get_or s l.i 0) in
    let long : length q ≡ length l.out = length-set l.out l.d (get_or s l.i 0) in
    let to : l.d + 1 ≤ length q = omega (arith, long) in
    let k = data-copied (goal.at.loop-i-preserved-in-Gives c).After-copy_run-run in
    let w = copied-within k (omega arith) in (
      w.1,
      omega (arith, w.0),
      l.invariant.2,
      copied-length k to ∙ long ∙ l.invariant.3,
      copied-after k to ∙ past-set l.out _ l.d _ c.copy_run-run.result.count l.invariant.4,
      data-run s l.i l.at l.n l.kept l.out l.d _ l.invariant.5 c.take_byte-t.result (omega arith) l.invariant.2 c.take_byte-t.ensures c.in-Gives.is (omega arith) k,
    )

pub bounds-kept-n : goal.bounds-kept-n
bounds-kept-n c = omega (arith, below (goal.at.bounds-kept-n c).In-Keeps)

pub overflow_add-n : goal.overflow_add-n
overflow_add-n c = omega (arith, below (goal.at.overflow_add-n c).In-Keeps)

pub overflow_add-n-in-Keeps : goal.overflow_add-n-in-Keeps
overflow_add-n-in-Keeps c =
    let l = c.loop-i in
    let long = length-set l.kept l.n (get_or c.args.s.now l.i 0) in
    omega (arith, copied-room (kept-copied (goal.at.overflow_add-n-in-Keeps c).After-copy_run-run-in-Keeps) (omega (arith, below (goal.at.overflow_add-n-in-Keeps c).In-Keeps, long)), long)

pub loop-i-smaller : goal.loop-i-smaller
loop-i-smaller c =
    omega (arith, copied-within (kept-copied (goal.at.loop-i-smaller c).After-copy_run-run-in-Keeps) (omega arith))

pub loop-i-preserved : goal.loop-i-preserved
loop-i-preserved c =
    let l = c.loop-i in
    let s = c.args.s.now in
    let q = set l.kept l.n (get_or s l.i 0) in
    let long : length q ≡ 1024 = length-set l.kept l.n (get_or s l.i 0) ∙ l.invariant.2 in
    let to : l.n + 1 ≤ length q = omega (arith, below (goal.at.loop-i-preserved c).In-Keeps, long) in
    let k = kept-copied (goal.at.loop-i-preserved c).After-copy_run-run-in-Keeps in
    let w = copied-within k (omega arith) in (
      w.1,
      omega (arith, w.0),
      copied-length k to ∙ long,
      l.invariant.3,
      l.invariant.4,
      kept_run s l.i l.at l.n l.kept l.out l.d _ l.invariant.5 c.take_byte-t.result (omega arith) l.invariant.2 c.take_byte-t.ensures c.in-Keeps.is k,
    )

-- an event, or a fault
pub returns-in-Stops : goal.returns-in-Stops
returns-in-Stops c =
    let l = c.loop-i in
    let s = c.args.s.now in
    rw c.run_of-in-Stops.ensures
    (was-ran _ _ _ _ _ _ _ _ (omega arith) l.invariant.4 (omega arith) l.invariant.2
    (stops-on s l.i l.at l.n l.kept (take l.d l.out) _ l.invariant.5 c.take_byte-t.result (omega arith) l.invariant.2 c.take_byte-t.ensures _ c.in-Stops.is))

-- the fragment's end
pub returns : goal.returns
unfolding happened
returns c =
    let l = c.loop-i in
    rw c.run_of-2.ensures
    (was-ran _ _ _ _ _ _ _ _ (omega arith) l.invariant.4 (omega arith) l.invariant.2
    (ends_on _ l.i l.at l.n l.kept (take l.d l.out) _ l.invariant.5 (omega arith)))
