-- `export_reader::tv_reader_feed` meets its contract: the numbers of what `feed` answers. Assumes nothing.
use Rattle.std.specs.Prelude.{Some}
use Rattle.std.proofs.Common.{arith}
use Rattle.std.proofs.lemmas.Grind.{common_steps}
use mathlib.Core.Path.{◌≡◌, ap, subst, ◌∙◌}
use Rattle.refusal.specs.declared.Refusal.TheVariants.{NoRoom}
use Rattle.telnet_fragments.specs.declared.Reader.{Reader}
use Rattle.telnet_fragments.specs.Promise.{Fed}
use Rattle.export_reader.specs.declared.TvReader.{TvReader}
use Rattle.export_reader.specs.Numbers.{reader_named, fed_numbers}
use Rattle.export_reader.proofs.Named.{refused-back, fed-back}
use Rattle.export_reader.proofs.tv_reader_feed.Goals.{After-eq}
use Rattle.export_reader.proofs.tv_reader_feed.Goals as goal

-- what `feed` answers and leaves with the reader that the numbers name
fed : (c : After-eq)
    → let a = c.args in
    Fed (reader_named a.reader) a.kept.now a.fragment.now a.room.now c.feed-fed.result c.feed-fed.new.kept c.feed-fed.new.room
fed c =
    let a = c.args in
    subst (λ (r : Reader). Fed r a.kept.now a.fragment.now a.room.now c.feed-fed.result c.feed-fed.new.kept c.feed-fed.new.room) c.into.ensures c.feed-fed.ensures

pub returns-then-eq : goal.returns-then-eq
returns-then-eq c =
    let t = c.feed-fed.result in
    let p = fed (goal.at.returns-then-eq c).After-eq in
    let short : t.refusal ≡ Some NoRoom = grind (arith, common_steps) in
    (t, p, c.fed_numbers.ensures ∙ ap (λ (r : TvReader). fed_numbers r t) (refused-back _ _ _ _ t _ _ p short))

pub returns : goal.returns
returns c =
    let t = c.feed-fed.result in
    let p = fed (goal.at.returns c).After-eq in
    let other : t.refusal ≡ Some NoRoom → ⊥ = λ e. let k = rw e at c.if-eq.ensures in cc in
    let back = c.into-2.ensures ∙ fed-back _ _ _ _ t _ _ p other in
    (t, p, c.fed_numbers-2.ensures ∙ ap (λ (r : TvReader). fed_numbers r t) back)
