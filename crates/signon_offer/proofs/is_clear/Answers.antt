-- `signon_offer::is_clear` meets its contract. Assumes nothing.
use mathlib.Core.Path.{sym, ◌∙◌}
use native.Mathlib.Omega.{arith}
use Rattle.signon_offer.proofs.Rules.{empty-clear, zeros-clear}
use Rattle.signon_offer.proofs.is_clear.Goals as goal

pub returns-then-seed-eq0 : goal.returns-then-seed-eq0
returns-then-seed-eq0 c = sym (empty-clear c.args.seed.now c.if-seed-eq0.true)

pub returns : goal.returns
returns c = c.same.ensures ∙ sym (zeros-clear c.args.seed.now (omega arith))
