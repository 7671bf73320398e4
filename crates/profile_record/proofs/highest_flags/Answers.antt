-- `profile_record::highest_flags` meets its contract. Assumes nothing.
use mathlib.Core.Path.{refl}
use Rattle.profile.specs.Profile.{shape_of}
use Rattle.profile_record.proofs.highest_flags.Goals as goal

pub returns : goal.returns
unfolding shape_of
returns c = refl
