-- The boundaries are read as they say, by computation. Assumes nothing.
use mathlib.Core.Path.{refl}
use Rattle.env.specs.Variable.{is_first, is, among, repeated}
use Rattle.env.specs.Fields.{joins, stands, escapes, starts_name, starts_value, row_of}
use Rattle.env.specs.Read.{add_variable, limited, whole, named, names, expect_no_text, variables_of, distinct, begun, reading_of}
use Rattle.env.specs.Boundaries.{AllRead, several, several_then, boundaries}
use Rattle.octets.specs.Same.{same}

pub boundaries-read : AllRead boundaries
unfolding is_first same is among repeated joins stands escapes starts_name starts_value row_of add_variable limited whole named names expect_no_text variables_of distinct begun reading_of several several_then
boundaries-read =
    (refl, (refl, (refl, (refl, (refl, (refl, (refl, (refl, (refl, (refl, (refl, (refl, (refl, (refl, (refl, (refl, (refl, (refl, (refl, (refl, (refl, (refl, (refl, (refl, (refl, (refl, (refl, (refl, tt))))))))))))))))))))))))))))
