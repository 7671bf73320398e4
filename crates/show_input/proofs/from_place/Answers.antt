-- `show_input::from_place` meets its contract. Assumes nothing.
use mathlib.Core.Path.{◌∙◌}
use native.Mathlib.Omega.{arith}
use lib.ListN.{length, drop, length-drop}
use lib.Seq.{take_all}
use Rattle.octets.specs.Part.{part}
use Rattle.show_input.proofs.from_place.Goals as goal

pub returns : goal.returns
unfolding part
returns c =
    let s = c.args in
    c.part.ensures ∙ take_all (length s.bytes.now) (drop s.at s.bytes.now) (rw length-drop (omega arith))
