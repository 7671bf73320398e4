-- `password_sha::are_printable` meets its contract: the library's test of all elements. Assumes nothing.
use mathlib.Core.Path.{◌∙◌}
use Rattle.std.proofs.Common.{rules}
use Rattle.std.proofs.lemmas.Iterator.{YieldsList-from_slice}
use Rattle.std.proofs.lemmas.Iterator.Search.{all_from_yields_List}
use Rattle.names.proofs.Every.{by_all}
use Rattle.password_sha.specs.Sha.{is_printable}
use Rattle.password_sha.proofs.are_printable.Goals as goal

pub returns : goal.returns
returns c =
    let text = c.args.text.now in
    all_from_yields_List is_printable _ _ _ c.all.ensures.ran (YieldsList-from_slice text c.iter.ensures.rest) (λ x b q k. search rules)
    ∙ by_all is_printable text
