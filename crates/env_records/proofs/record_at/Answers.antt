-- `env_records::record_at` meets its contract. Assumes nothing.
use mathlib.Core.Path.{sym, ◌∙◌}
use native.Mathlib.Nat.{add-zero}
use native.Mathlib.Omega.{arith}
use lib.Seq.{get_or-drop}
use Rattle.env_records.proofs.Steps.{record-past, record_of}
use Rattle.env_records.proofs.record_at.Goals as goal

pub returns-then-i-numbers : goal.returns-then-i-numbers
returns-then-i-numbers c =
    let s = c.args in
    c.record_of.ensures ∙ sym (record-past s.numbers.now s.i (omega arith))

pub returns : goal.returns
returns c =
    let s = c.args in
    rw (record_of s.numbers.now s.i (omega arith)) (simp (get_or-drop, add-zero) c.record_of-2.ensures)
