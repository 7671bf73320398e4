use Rattle.std.proofs.Common.{◌≡◌, drop}
use Rattle.words.specs.Blocks.{cut}
use Rattle.sha1_hash.specs.Sha1.{hashed}
use Rattle.sha1_block.specs.Held.{five}
use Rattle.sha1_block.proofs.absorb.Given as goal

abbrev pub invariant-loop-block : goal.invariant-loop-block
invariant-loop-block l = hashed (five l.h) (drop l.block-index l.block-items) ≡ hashed (five l.initial.h) (cut 64 l.blocks)
