-- `play_environ::send_request` meets its contract: what is put is computed. Assumes nothing.
use mathlib.Core.Path.{ap}
use Prim.Native.Nat.{ℕ}
use Rattle.octets.specs.Lent.{Outcome, overwrite}
use Rattle.octets_marked.specs.Marked.{marked, put_marked}
use Rattle.env.specs.Write.{escaped}
use Rattle.play_environ.proofs.send_request.Goals as goal

pub returns : goal.returns
unfolding put_marked marked overwrite escaped
returns c = ap (λ (o : Outcome ℕ). o.lent) c.put_marked.ensures
