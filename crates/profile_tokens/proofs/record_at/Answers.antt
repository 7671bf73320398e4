-- `profile_tokens::record_at` meets its contract. Assumes nothing.
use mathlib.Core.Path.{◌∙◌}
use native.Mathlib.Omega.{arith}
use lib.ListN.{length, drop, length-drop}
use lib.Seq.{take_all}
use Rattle.octets.specs.Part.{part}
use Rattle.profile_tokens.proofs.record_at.Goals as goal

pub returns : goal.returns
unfolding part
returns c =
    let s = c.args in
    c.part.ensures ∙ take_all (length s.table.now) (drop s.at s.table.now) (rw length-drop (omega arith))
