-- `profile_maker::put_record` meets its contract: four pieces one after the other. Assumes nothing.
use mathlib.Core.Path.{ap, ◌∙◌}
use Prim.Native.Nat.{◌≤◌}
use native.Mathlib.Omega.{arith}
use Rattle.octets.specs.Promise.{put_at}
use Rattle.names.specs.Name.{raised}
use Rattle.names.proofs.Held.{length-raised, raised-within, held-length, held-within, held_bytes}
use Rattle.profile_maker.proofs.Parts.{record-put}
use Rattle.profile_maker.proofs.put_record.Goals.{After-profile_name-held}
use Rattle.profile_maker.proofs.put_record.Goals as goal

-- a name has ten bytes at most
short : (c : After-profile_name-held) → c.profile_name-held.result.length ≤ 10
short c =
    let t = c.args.name.now in
    omega (arith, held-length t c.requires.0 c.profile_name-held.result c.profile_name-held.ensures, raised-within t c.requires.0)

pub overflow_add-header : goal.overflow_add-header
overflow_add-header c = omega (arith, short (goal.at.overflow_add-header c).After-profile_name-held)

pub overflow_cast-header : goal.overflow_cast-header
overflow_cast-header c = omega (arith, short (goal.at.overflow_cast-header c).After-profile_name-held)

pub overflow_cast-header-2 : goal.overflow_cast-header-2
overflow_cast-header-2 c = omega (arith, short (goal.at.overflow_cast-header-2 c).After-profile_name-held)

pub slice_bounds-put-end-2 : goal.slice_bounds-put-end-2
slice_bounds-put-end-2 c = held-within c.args.name.now c.requires.0 c.profile_name-held.result c.profile_name-held.ensures

pub overflow_add-n : goal.overflow_add-n
overflow_add-n c = omega (arith, short (goal.at.overflow_add-n c).After-profile_name-held)

pub overflow_add-n-2 : goal.overflow_add-n-2
overflow_add-n-2 c = omega (arith, short (goal.at.overflow_add-n-2 c).After-profile_name-held)

pub returns : goal.returns
returns c =
    let t = c.args.name.now in
    let name = c.profile_name-held.result in
    let is = c.profile_name-held.ensures in
    record-put c.args.out.now (raised t) c.args.des c.args.sha c.args.flags name.length (held-length t c.requires.0 name is)
    (omega (arith, length-raised t, c.requires.1)) (omega (arith, c.well_formed)) (omega (arith, c.well_formed))
    c.put.new.buffer c.put-2.new.buffer c.put-3.new.buffer c.put-4.new.buffer
    c.put.result c.put-2.result c.put-3.result c.put-4.result
    c.put.ensures
    (c.put-2.ensures ∙ ap (λ b. put_at b c.put.new.buffer 4) (held_bytes t c.requires.0 name is))
    c.put-3.ensures
    c.put-4.ensures
