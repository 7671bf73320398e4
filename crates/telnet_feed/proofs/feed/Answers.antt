-- `telnet_feed::feed` meets its contract: a refused and a faulted call are idle, any other is what `pass` finds, with its
-- payload put. Assumes nothing.
use mathlib.Core.Path.{◌≡◌, refl, sym, ap, subst, ◌∙◌}
use mathlib.Core.List.{List}
use Prim.Native.Nat.{ℕ, ◌≤◌}
use native.Mathlib.Omega.{arith}
use lib.ListN.{length, take, length-take}
use lib.Seq.{take_all}
use Rattle.octets.specs.Lent.{outcome}
use Rattle.octets_part.proofs.Parts.{take-clipped}
use Rattle.telnet_fragments.specs.declared.Taken.{Taken}
use Rattle.telnet_fragments.specs.Call.{call_limit}
use Rattle.telnet_fragments.specs.Promise.{seen, mode_of}
use Rattle.telnet_pass.specs.Run.{Ran}
use Rattle.telnet_feed.proofs.Feeding.{no_room_lem, faulted, idle-short, idle-faulted, not-idle, held-is, room_after, fed-put}
use Rattle.telnet_feed.proofs.feed.Goals.{After-pass-stage}
use Rattle.telnet_feed.proofs.feed.Goals as goal

pub returns-then-room-lt-ROOM : goal.returns-then-room-lt-ROOM
returns-then-room-lt-ROOM c =
    let a = c.args in
    let r = a.reader in
    let short = c.if-room-lt-ROOM.true in (
      ap (λ (x : Taken). outcome (seen x a.kept.now) a.room.now) c.idle.ensures
          ∙ sym (no_room_lem (mode_of r a.kept.now) a.fragment.now a.room.now short),
      rw (idle-short r.stage r.count a.kept.now a.room.now short) (ap (λ (x : Taken). x.reader) c.idle.ensures, refl),
    )

pub returns-in-Some : goal.returns-in-Some
returns-in-Some c =
    let a = c.args in
    let r = a.reader in
    let big = c.if-room-lt-ROOM.false in
    let f = sym c.fault_of.ensures ∙ c.in-Some.is in (
      ap (λ (x : Taken). outcome (seen x a.kept.now) a.room.now) c.idle-in-Some.ensures
          ∙ sym (faulted r.stage r.count a.kept.now a.fragment.now a.room.now c.in-Some.fault big f),
      rw (idle-faulted r.stage r.count a.kept.now a.room.now c.in-Some.fault big f) (ap (λ (x : Taken). x.reader) c.idle-in-Some.ensures, refl),
    )

-- what `pass` finds of the first bytes, at most 1,024
passed : (c : After-pass-stage)
    → let a = c.args in
    Ran a.reader.stage a.reader.count a.kept.now (take call_limit a.fragment.now) a.room.now c.pass-stage.result c.pass-stage.new.kept
    c.pass-stage.new.out
passed c =
    let a = c.args in
    let bs = a.fragment.now in
    let first : take c.min-end.result bs ≡ take call_limit bs = rw c.min-end.ensures (take-clipped call_limit bs) in
    let fits : length (take call_limit bs) ≤ length a.room.now = omega (arith, length-take call_limit bs, c.if-room-lt-ROOM.false) in
    let cut : take (length a.room.now) (take c.min-end.result bs) ≡ take call_limit bs =
    rw first (take_all (length a.room.now) (take call_limit bs) fits) in
    subst (λ (x : List ℕ). Ran a.reader.stage a.reader.count a.kept.now x a.room.now c.pass-stage.result
    c.pass-stage.new.kept c.pass-stage.new.out) cut c.pass-stage.ensures

pub put_payload-requires : goal.put_payload-requires
put_payload-requires c =
    let a = c.args in
    let s = a.reader in
    let q = c.pass-stage in
    let size = c.payload_length-payload in
    let ran = passed (goal.at.put_payload-requires c).After-pass-stage in
    let after = room_after s.stage s.count a.kept.now a.fragment.now a.room.now q.result q.new.kept q.new.out c.if-room-lt-ROOM.false ran in
    omega (arith, after, size.ensures.most, length-take size.result q.new.kept)

pub returns : goal.returns
returns c =
    let a = c.args in
    let s = a.reader in
    let q = c.pass-stage in
    let r = q.result in
    let size = c.payload_length-payload in
    let big = c.if-room-lt-ROOM.false in
    let f = sym c.fault_of.ensures ∙ c.in_default.is in
    let ran = passed (goal.at.returns c).After-pass-stage in
    let left = c.put_payload.ensures in (
      rw c.held_count.ensures
          (fed-put s.stage s.count a.kept.now a.fragment.now a.room.now r q.new.kept q.new.out big ran ran.kept-is f _ _ _ c.fault_of-2.ensures size.ensures.is left),
      rw (not-idle s.stage s.count a.kept.now a.room.now big f)
          (rw c.held_count.ensures (held-is r.stage r.count _ ran.kept-is)),
    )
