-- `names::name_of` meets its contract. Assumes nothing.
use mathlib.Core.Path.{sym, ◌∙◌}
use native.Mathlib.Omega.{arith}
use lib.ListN.{length-map}
use Rattle.names.specs.Padding.{filled}
use Rattle.names.specs.Name.{named}
use Rattle.names.proofs.Text.{name-length}
use Rattle.names.proofs.name_of.Goals as goal

pub raised_bytes-bytes-requires : goal.raised_bytes-bytes-requires
raised_bytes-bytes-requires c =
    let s = c.args in
    omega (arith, name-length s.limit s.text.now (sym c.is_name.ensures ∙ c.if-is_name.true))

pub returns-then-is_name : goal.returns-then-is_name
unfolding named
returns-then-is_name c = rw (sym c.is_name.ensures ∙ c.if-is_name.true, c.raised_bytes-bytes.ensures, length-map)

pub returns : goal.returns
unfolding named filled
returns c = rw (sym c.is_name.ensures ∙ c.if-is_name.false)
