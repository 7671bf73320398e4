-- `env_variables::take_value` meets its contract: there is no VALUE, or it is the text after the VALUE. Assumes
-- nothing.
use mathlib.Core.Path.{sym, ◌∙◌}
use native.Mathlib.Omega.{arith}
use Rattle.env_variables.proofs.Texts.{gives-some}
use Rattle.env_variables.proofs.Turning.{no_value, some-value}
use Rattle.env_variables.proofs.take_value.Goals as goal

pub returns-then-not-gives_value : goal.returns-then-not-gives_value
returns-then-not-gives_value c =
    let is = c.gives_value in
    no_value c.args.rest.now c.args.bytes.now c.args.at c.requires.0 (sym is.ensures ∙ c.if-not-gives_value.true)

pub take_text-requires : goal.take_text-requires
take_text-requires c =
    let is = c.gives_value in
    let a = c.args in
    (gives-some a.rest.now (sym is.ensures ∙ c.if-not-gives_value.false), omega arith)

pub returns : goal.returns
returns c =
    let a = c.args in
    let is = c.gives_value in
    let some = sym is.ensures ∙ c.if-not-gives_value.false in
    some-value a.rest.now a.bytes.now a.at _ _ some c.take_text.ensures
