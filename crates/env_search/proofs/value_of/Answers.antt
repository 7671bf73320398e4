-- `env_search::value_of` meets its contract. Assumes nothing.
use mathlib.Core.Path.{◌∙◌}
use Rattle.env.specs.Variable.{value_or}
use Rattle.octets.specs.Part.{part}
use Rattle.env_search.specs.Theorems.{value_at}
use Rattle.env_search.proofs.Found.{value_found}
use Rattle.env_search.proofs.value_of.Goals as goal

pub returns-in-None : goal.returns-in-None
unfolding value_or value_at part
returns-in-None c =
    let s = c.args in
    let f = c.find in
    c.part.ensures
    ∙ value_found s.kind s.name.now s.bytes.now s.numbers.now f.result _ f.ensures c.in-None.is

pub returns-in-Some : goal.returns-in-Some
unfolding value_or value_at
returns-in-Some c =
    let s = c.args in
    let f = c.find in
    c.part-in-Some.ensures
    ∙ value_found s.kind s.name.now s.bytes.now s.numbers.now f.result _ f.ensures c.in-Some.is
