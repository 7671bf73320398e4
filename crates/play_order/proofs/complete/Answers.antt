-- `play_order::complete` meets its contract. Assumes nothing.
use mathlib.Core.Path.{ap, sym, ◌∙◌}
use Rattle.show_event.specs.Sent.{sent_all}
use Rattle.play_order.proofs.Ordering.{held-completed, none-completed}
use Rattle.play_order.proofs.complete.Goals as goal

pub returns-then-is_err : goal.returns-then-is_err
unfolding sent_all
returns-then-is_err c =
    let a = c.args in
    ap (λ es. sent_all es a.up.now a.at) (none-completed a.ledger c.complete.ensures (sym c.if-is_err.ensures.value))

pub returns : goal.returns
returns c =
    let a = c.args in
    c.send_record-end.ensures
    ∙ ap (λ es. sent_all es a.up.now a.at) (held-completed a.ledger c.complete.ensures (sym c.if-is_err.ensures.value))
