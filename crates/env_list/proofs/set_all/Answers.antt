use mathlib.Core.Path.{◌≡◌, refl}
use native.Mathlib.Omega.{arith}
use Rattle.env_list.specs.Internal.Firsts.{first_records}
use Rattle.env_list.proofs.Firsts.{begun_more}
use Rattle.env_list.proofs.set_all.Goals as goal

pub loop-k-init : goal.loop-k-init
unfolding first_records
loop-k-init c = (omega arith, refl)

pub loop-k-preserved : goal.loop-k-preserved
loop-k-preserved c =
    let l = c.loop-k in
    let a = c.args in
    (omega arith, rw (l.invariant.1, c.record_at.ensures) (begun_more a.numbers.now l.k a.records.now (omega arith)))

pub returns : goal.returns
returns c =
    let e : c.loop-k.k ≡ c.args.n = omega arith in rw e at c.loop-k.invariant.1
