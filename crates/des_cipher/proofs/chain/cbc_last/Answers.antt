-- `des_cipher::chain::cbc_last` meets its contract: the chain under the round keys of the key. Assumes nothing.
use mathlib.Core.Path.{ap, ◌∙◌}
use Rattle.des.specs.Cipher.{chained}
use Rattle.des_cipher.proofs.chain.cbc_last.Goals as goal

pub returns : goal.returns
returns c = c.chain.ensures ∙ ap (λ ks. chained ks 0 c.args.blocks.now) c.key_schedule.ensures
