-- `names_order::is_raised_name` meets its contract. Assumes nothing.
use Rattle.std.proofs.Common.{rules}
use Rattle.std.proofs.lemmas.Iterator.{YieldsList-from_slice}
use Rattle.std.proofs.lemmas.Iterator.Search.{all_from_yields_List}
use mathlib.Core.Path.{◌∙◌}
use native.Mathlib.Omega.{arith}
use borrow.Author.Tests.{le-leb, lt-leb}
use lib.ListN.{length}
use Rattle.names.specs.Name.{is_name_byte, is_raised_name}
use Rattle.names.proofs.Every.{by_all}
use Rattle.names_order.proofs.is_raised_name.Goals as goal

pub returns-then-text-eq0 : goal.returns-then-text-eq0
unfolding is_raised_name
returns-then-text-eq0 c = rw (lt-leb 1 (length c.args.text.now) (omega arith))

pub returns-then-limit-text : goal.returns-then-limit-text
unfolding is_raised_name
returns-then-limit-text c =
    let s = c.args in
    let n = length s.text.now in
    rw (le-leb 1 n (omega arith), lt-leb n s.limit (omega arith))

pub returns : goal.returns
unfolding is_raised_name
returns c =
    let s = c.args in
    let n = length s.text.now in
    rw (le-leb 1 n (omega arith), le-leb n s.limit (omega arith))
    (all_from_yields_List is_name_byte _ _ _ c.all.ensures.ran (YieldsList-from_slice s.text.now c.iter.ensures.rest) (λ x b q k. search rules)
    ∙ by_all is_name_byte s.text.now)
