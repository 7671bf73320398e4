-- `profile_tokens::token_part` meets its contract. Assumes nothing.
use mathlib.Core.Path.{sym, ap, ◌∙◌}
use Prim.Native.Nat.{◌+◌}
use lib.ListN.{take, drop}
use lib.Seq.{drop-drop}
use Rattle.octets.specs.Part.{part}
use Rattle.profile.specs.Table.{name_length_at}
use Rattle.profile_tokens.proofs.token_part.Goals as goal

pub returns : goal.returns
unfolding part
returns c =
    let s = c.args in
    let r = drop s.at s.table.now in
    c.part.ensures ∙ rw (c.byte_at-n.ensures, c.record_at-record.ensures)
    (ap (take s.count) (sym (drop-drop s.from (4 + name_length_at r) r)))
