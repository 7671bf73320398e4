-- `sha1_block::eighty` meets its contract: four times twenty rounds. Assumes nothing.
use Rattle.std.proofs.Common.{replicate, arith}
use Rattle.sha1_block.specs.Held.{five}
use Rattle.sha1_block.proofs.Rounds.{rounded-first, rounded-last}
use Rattle.sha1_block.proofs.eighty.Goals as goal

pub returns : goal.returns
returns c =
    let b = c.args.block.now in
    let H = five c.args.h in
    let r₁ = c.twenty-first.ensures.rounded H (rounded-first b H (replicate 80 0)) in
    let r₃ = c.twenty-third.ensures.rounded H (c.twenty-second.ensures.rounded H r₁) in
    rounded-last b H _ _ (omega arith) (c.twenty.ensures.rounded H r₃)
