-- `profile_table::find_here` meets its contract. Assumes nothing.
use Rattle.std.specs.Prelude.{Option, None, Some, is_some}
use mathlib.Core.Path.{◌≡◌, refl, sym, ap, ◌∙◌}
use mathlib.Core.Bool.{true, false}
use lib.ListN.{drop}
use Rattle.octets.specs.Same.{same}
use Rattle.profile.specs.Table.{name_at}
use Rattle.profile_table.specs.declared.Entry.{Entry}
use Rattle.profile_table.proofs.Stepping.{kept-name}
use Rattle.profile_table.proofs.find_here.Goals as goal

none : (found : Option Entry) → is_some found ≡ false → found ≡ None
none None e = refl
none (Some d) e = cc

pub returns-then-same : goal.returns-then-same
returns-then-same c =
    let a = c.args in
    let name = kept-name a.table.now a.at a.n c.requires.0 in
    let hit : same a.name.now (name_at (drop a.at a.table.now)) ≡ true =
    sym (c.same.ensures ∙ ap (same a.name.now) name) ∙ c.if-same.true in
    rw (none a.found (sym c.if-is_some.ensures), hit) (ap Some c.entry_of.ensures)

pub returns : goal.returns
returns c =
    let a = c.args in
    let name = kept-name a.table.now a.at a.n c.requires.0 in
    let miss : same a.name.now (name_at (drop a.at a.table.now)) ≡ false =
    sym (c.same.ensures ∙ ap (same a.name.now) name) ∙ c.if-same.false in
    rw (none a.found (sym c.if-is_some.ensures), miss)
