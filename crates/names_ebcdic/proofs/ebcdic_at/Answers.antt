-- `names_ebcdic::ebcdic_at` meets its contract. Assumes nothing.
use mathlib.Core.Path.{sym, ap, ◌∙◌}
use native.Mathlib.Omega.{arith}
use lib.ListN.{length-map, get_or-eq_default}
use Rattle.names.specs.Ebcdic.{ebcdic, ebcdic_of, blank}
use Rattle.names.proofs.Text.{ebcdic-at}
use Rattle.names_ebcdic.proofs.ebcdic_at.Goals as goal

pub returns-then-at-text : goal.returns-then-at-text
returns-then-at-text c =
    let s = c.args in
    c.ebcdic.ensures ∙ ap ebcdic c.raise.ensures ∙ sym (ebcdic-at s.text.now s.at blank (omega arith))

pub returns : goal.returns
returns c =
    let s = c.args in
    sym (get_or-eq_default (ebcdic_of s.text.now) blank (simp length-map (omega arith)))
