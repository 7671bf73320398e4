-- `option_line::command_bytes` meets its contract. Assumes nothing.
use mathlib.Core.Path.{refl}
use Rattle.option_line.proofs.Sending.{command-filled}
use Rattle.option_line.proofs.command_bytes.Goals as goal

pub returns : goal.returns
returns c =
    let q = c.args.command in
    command-filled q.verb q.option _ refl c.write.ensures
