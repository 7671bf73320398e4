-- `env_variables::gives_value` meets its contract. Assumes nothing.
use mathlib.Core.Path.{sym}
use native.Mathlib.Omega.{arith}
use Rattle.env_variables.proofs.Texts.{none-given, given-at}
use Rattle.env_variables.proofs.gives_value.Goals as goal

pub returns-then-rest-eq0 : goal.returns-then-rest-eq0
returns-then-rest-eq0 c = sym (none-given _ c.if-rest-eq0.true)

pub returns : goal.returns
returns c =
    let a = c.args in
    sym (given-at a.rest.now (omega arith))
