-- `show_case::is_title` meets its contract. Assumes nothing.
use mathlib.Core.Path.{◌≡◌, ap}
use native.Mathlib.Omega.{arith}
use lib.Dec.{eqb}
use lib.ListN.{length}
use Rattle.octets.specs.Find.{up_to}
use Rattle.show_case.specs.Case.{title_in, is_title}
use Rattle.show_case.proofs.is_title.Goals as goal

pub returns : goal.returns
unfolding title_in is_title
returns c =
    let line = c.args.line.now in
    let colon : c.find_byte.result ≡ length (up_to 58 line) = omega (arith, c.find_byte.ensures) in
    ap (λ n. eqb n (length line)) colon
