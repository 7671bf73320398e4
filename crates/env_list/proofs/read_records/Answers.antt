-- `env_list::read_records` meets its contract: a refusal sets no record, and what is read sets as many as it tells of.
-- Assumes nothing.
use mathlib.Core.Path.{refl}
use Rattle.std.proofs.lemmas.Result.{err_from_is_err_and}
use Rattle.env_list.specs.Internal.Firsts.{first_records, count_of}
use Rattle.env_list.proofs.read_records.Goals as goal

pub returns-in_err-read : goal.returns-in_err-read
unfolding first_records count_of
returns-in_err-read c =
    let p = err_from_is_err_and c.from_residual.result c.from_residual.ensures.1 in
    rw (p.1, p.2) (c.in_err-read.ensures c.args.records.now refl).1

pub set_all-requires : goal.set_all-requires
unfolding count_of
set_all-requires c = (c.in_ok-read.ensures c.args.records.now refl).0

pub returns : goal.returns
unfolding count_of
returns c = rw c.set_all.ensures (c.in_ok-read.ensures c.args.records.now refl).1
