-- `env_writer::longer` meets its contract: a text takes no fewer bytes than it has, and no more than twice as many.
-- Assumes nothing.
use mathlib.Core.Path.{ap}
use native.Mathlib.Omega.{arith}
use lib.ListN.{length}
use Rattle.env.specs.Variable.{ESC}
use Rattle.octets_marked.proofs.Marked.{marked-size}
use Rattle.env_writer.proofs.Writing.{escaped-marked}
use Rattle.env_writer.proofs.longer.Goals as goal

pub returns-then-text-gt-PAYLOAD_LIMIT : goal.returns-then-text-gt-PAYLOAD_LIMIT
returns-then-text-gt-PAYLOAD_LIMIT c =
    let text = c.args.text.now in
    omega (arith, marked-size ESC 0 3 text, ap length (escaped-marked text))

pub overflow_add-m : goal.overflow_add-m
overflow_add-m c = omega (arith, marked-size ESC 0 3 c.args.text.now, c.marked_length.ensures ESC)

pub returns-then-m-gt-PAYLOAD_LIMIT : goal.returns-then-m-gt-PAYLOAD_LIMIT
returns-then-m-gt-PAYLOAD_LIMIT c = omega (arith, c.marked_length.ensures ESC, ap length (escaped-marked c.args.text.now))

pub returns : goal.returns
returns c = omega (arith, c.marked_length.ensures ESC, ap length (escaped-marked c.args.text.now))
