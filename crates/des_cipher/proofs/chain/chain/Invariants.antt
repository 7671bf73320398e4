use mathlib.Core.Path.{◌≡◌}
use lib.ListN.{drop}
use Rattle.des.specs.Cipher.{chained}
use Rattle.des_cipher.proofs.chain.chain.Given as goal

abbrev pub invariant-loop-block : goal.invariant-loop-block
invariant-loop-block l = chained l.keys l.last (drop l.block-index l.blocks) ≡ chained l.keys 0 l.blocks
