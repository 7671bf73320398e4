-- `profile_tokens::enabled` meets its contract: the flags are the third byte of the record. Assumes nothing.
use mathlib.Core.Path.{sym, ap, ◌∙◌}
use Prim.Native.Nat.{ℕ, ◌%◌}
use lib.Dec.{eqb}
use lib.ListN.{drop}
use Rattle.profile.specs.Table.{version_of, flags_at}
use Rattle.profile.proofs.Shapes.{enabled-at}
use Rattle.profile_tokens.proofs.enabled.Goals as goal

pub returns : goal.returns
returns c =
    let a = c.args in
    ap (λ (f : ℕ). eqb (f % 2) 1) (c.byte_at-flags.ensures ∙ ap flags_at c.record_at.ensures)
    ∙ sym (enabled-at (version_of a.table.now) (drop a.at a.table.now))
