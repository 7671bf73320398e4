-- `env_variables::take_text` meets its contract: the text that was found and copied is the text of the row. Assumes
-- nothing.
use native.Mathlib.Omega.{arith}
use Rattle.env_variables.proofs.Texts.{taken}
use Rattle.env_variables.proofs.take_text.Goals as goal

pub returns : goal.returns
returns c =
    let a = c.args in
    let t = c.text_at-t in
    taken a.rest.now a.bytes.now a.at t.result (omega arith) (omega arith) t.ensures c.copy_text.ensures
