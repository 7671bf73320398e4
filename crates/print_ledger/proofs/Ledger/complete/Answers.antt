-- `print_ledger::Ledger::complete` meets its contract: while one is held, what `octets::put` answers decides. Assumes
-- nothing.
use Rattle.octets.proofs.Promise.{front-put}
use Rattle.print_ledger.specs.Ledger.{print_complete, complete_into}
use Rattle.print_ledger.proofs.Ledger.complete.Goals as goal

pub returns-then-not-self : goal.returns-then-not-self
unfolding complete_into
returns-then-not-self c = rw (c.after_completion.ensures, c.if-not-self.true)

pub returns-then-put : goal.returns-then-put
unfolding complete_into
returns-then-put c =
    rw (c.after_completion-then-put.ensures, c.if-not-self.false)
    (front-put _ _ print_complete c.args.out.now (rw c.if-put.true at c.put.ensures))

pub returns : goal.returns
unfolding complete_into
returns c =
    rw (c.after_completion-2.ensures, c.if-not-self.false)
    (front-put _ _ print_complete c.args.out.now (rw c.if-put.false at c.put.ensures))
