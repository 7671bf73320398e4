-- `names::are_name_bytes` meets its contract: the library's test of all elements, of the bytes raised. Assumes nothing.
use mathlib.Core.Path.{◌∙◌}
use mathlib.Core.Bool.{Bool}
use Prim.Native.Nat.{ℕ}
use Rattle.std.proofs.lemmas.Iterator.{YieldsList-from_slice}
use Rattle.std.proofs.lemmas.Iterator.Search.{all_from_yields_List}
use Rattle.std.proofs.Common.{rules}
use Rattle.names.specs.Name.{raised_byte, is_name_byte}
use Rattle.names.proofs.Every.{by_all, every_mapped}
use Rattle.names.proofs.are_name_bytes.Goals as goal

pub returns : goal.returns
returns c =
    let text = c.args.text.now in
    let test : ℕ → Bool = λ b. is_name_byte (raised_byte b) in
    all_from_yields_List test _ _ _ c.all.ensures.ran (YieldsList-from_slice text c.iter.ensures.rest) (λ x b q k. search rules)
    ∙ by_all test text ∙ every_mapped is_name_byte raised_byte text
