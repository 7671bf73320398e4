-- `play_options::all_on` meets its contract: the library's test of all of a range. Assumes nothing.
use mathlib.Core.Path.{refl}
use Prim.Native.Nat.{ℕ}
use Rattle.std.proofs.Common.{rules}
use Rattle.std.proofs.lemmas.Iterator.{YieldsList-from_range}
use Rattle.std.proofs.lemmas.Iterator.Search.{all_from_yields_List}
use Rattle.option_sides.specs.Session.{side_at}
use Rattle.play_options.specs.Internal.Turns.{option_at, whose_at, is_on, all_on}
use Rattle.play_options.proofs.all_on.Goals as goal

pub returns : goal.returns
unfolding all_on
returns c =
    all_from_yields_List (λ (i : ℕ). is_on (side_at c.args.sides (whose_at i) (option_at i))) _ _ _ c.all.ensures.ran (YieldsList-from_range 0 6 6 refl refl)
    (λ x b q k. search rules)
