-- `show_case::say_each` meets its contract. Assumes nothing.
use Rattle.std.proofs.Common.{of_calls}
use Rattle.std.proofs.lemmas.List.{drop_more}
use Rattle.show_case.proofs.say_each.Goals as goal

pub loop-item-preserved : goal.loop-item-preserved
loop-item-preserved g c =
    let l = c.loop-item in (
      search of_calls,
      λ last more. l.invariant.1 last
          (rw (drop_more c.args.items.now l.item-index c.item-item.result c.loop-item-test.true, ← c.item-item.is) (c.say.new.self, c.say.ensures, more)),
    )
