-- `telnet_reader::subnegotiation` meets its contract. Assumes nothing.
use mathlib.Core.Path.{sym, ap, ap₂, ◌∙◌}
use Prim.Native.Nat.{◌+◌}
use native.Mathlib.Omega.{arith}
use lib.ListN.{drop, get_or, length-drop}
use Rattle.telnet_reader.specs.Promise.{event_found}
use Rattle.telnet.specs.declared.Kind.TheVariants.{Subnegotiation}
use Rattle.telnet_data.proofs.Stretches.{span-within, Measured, measured}
use Rattle.telnet_reader.proofs.Places.{sb-cut, sb-long, sb-short, sb-undoubled, sb-found}
use Rattle.telnet_reader.proofs.subnegotiation.Goals.{After-measure-payload}
use Rattle.telnet_reader.proofs.subnegotiation.Goals as goal

-- the payload that was measured
payload : (c : After-measure-payload) → Measured c.args.s.now (c.args.at + 3)
    c.measure-payload.result
payload c =
    let a = c.args in
    measured a.s.now (a.at + 3) c.measure-payload.result c.measure-payload.ensures

pub returns-then-place-s : goal.returns-then-place-s
returns-then-place-s c =
    let a = c.args in
    sym (sb-cut a.s.now a.at (omega arith))

pub returns-then-count-gt-PAYLOAD_LIMIT : goal.returns-then-count-gt-PAYLOAD_LIMIT
returns-then-count-gt-PAYLOAD_LIMIT c =
    let a = c.args in
    sym (sb-long a.s.now a.at (omega arith) (omega (arith, payload (goal.at.returns-then-count-gt-PAYLOAD_LIMIT c).After-measure-payload)))

pub overflow_sub-s : goal.overflow_sub-s
overflow_sub-s c =
    let a = c.args in
    let rest = drop (a.at + 3) a.s.now in
    omega (arith, payload (goal.at.overflow_sub-s c).After-measure-payload, span-within rest, length-drop (a.at + 3) a.s.now)

pub returns-then-s-end-lt2 : goal.returns-then-s-end-lt2
returns-then-s-end-lt2 c =
    let a = c.args in
    let m = payload (goal.at.returns-then-s-end-lt2 c).After-measure-payload in
    sym (sb-short a.s.now a.at (omega arith) (omega arith) (omega arith))

pub returns-then-s-end : goal.returns-then-s-end
returns-then-s-end c =
    let a = c.args in
    let m = payload (goal.at.returns-then-s-end c).After-measure-payload in
    sym (sb-undoubled a.s.now a.at (omega arith) (omega arith) (omega arith) (rw m.ended at c.if-s-end.true))

pub returns : goal.returns
returns c =
    let a = c.args in
    let m = payload (goal.at.returns c).After-measure-payload in
    ap₂ (event_found (Subnegotiation (get_or a.s.now (a.at + 2) 0))) m.counted (ap (λ k. k + 2) m.ended)
    ∙ sym (sb-found a.s.now a.at (omega arith) (omega arith) (omega arith) (rw m.ended at c.if-s-end.false))
