-- `profile_record::record_length` meets its contract. Assumes nothing.
use mathlib.Core.Path.{refl}
use Rattle.profile.specs.Profile.{shape_of, sum_of}
use Rattle.profile_record.proofs.record_length.Goals as goal

pub returns : goal.returns
unfolding shape_of sum_of
returns c = refl
