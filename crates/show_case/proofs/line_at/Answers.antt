-- `show_case::line_at` meets its contract. Assumes nothing.
use mathlib.Core.Path.{◌≡◌, ◌∙◌}
use Prim.Native.Nat.{◌-◌}
use native.Mathlib.Omega.{arith}
use lib.ListN.{length, drop}
use Rattle.octets.specs.Find.{up_to}
use Rattle.octets.specs.Part.{part}
use Rattle.show_case.specs.Case.{line_at}
use Rattle.show_case.proofs.Lines.{part-before}
use Rattle.show_case.proofs.line_at.Goals as goal

pub returns : goal.returns
unfolding part line_at
returns c =
    let s = c.args in
    let n : c.find_byte-end.result - s.at ≡ length (up_to 10 (drop s.at s.text.now)) = omega arith in
    c.part.ensures ∙ rw n (part-before 10 (drop s.at s.text.now))
