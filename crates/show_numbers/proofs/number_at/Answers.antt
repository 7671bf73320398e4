-- `show_numbers::number_at` meets its contract: two bytes are at the place, or fewer are left from there on. Assumes
-- nothing.
use mathlib.Core.Path.{sym, ◌∙◌}
use native.Mathlib.Omega.{arith}
use lib.ListN.{length-drop, drop}
use Rattle.show_numbers.proofs.Pairs.{no-pair, number-there}
use Rattle.show_numbers.proofs.number_at.Goals as goal

pub returns-then-n-at : goal.returns-then-n-at
returns-then-n-at c =
    let s = c.args in
    sym (no-pair (drop s.at s.bytes.now) (rw length-drop (omega arith)))

pub returns-then-n-at-lt2 : goal.returns-then-n-at-lt2
returns-then-n-at-lt2 c =
    let s = c.args in
    sym (no-pair (drop s.at s.bytes.now) (rw length-drop (omega arith)))

pub returns : goal.returns
returns c =
    let s = c.args in
    c.number.ensures ∙ sym (number-there s.bytes.now s.at (omega arith))
