-- `sha1_block::twenty` meets its contract: a word and a round more at each step. Assumes nothing.
use Rattle.std.proofs.Common.{◌≡◌, ◌+◌, ◌*◌, ◌∙◌, arith, length-set}
use Rattle.sha1_block.specs.Held.{five}
use Rattle.sha1_block.proofs.Rounds.{same-round, carried-one}
use Rattle.sha1_block.proofs.twenty.Goals as goal

pub loop-t-init : goal.loop-t-init
loop-t-init c = record { words = omega arith; rounded = λ H r. r }

pub loop-t-preserved : goal.loop-t-preserved
loop-t-preserved c =
    let l = c.loop-t in
    let a = c.args in
    let x = c.word-x in
    let same = same-round a.stage l.t x.result (five l.s) (omega arith) (omega arith) in
    let more = carried-one a.block.now l.t l.w (five l.s) x.result (omega (arith, l.invariant.words)) x.ensures in
    record {
      words = length-set l.w l.t x.result ∙ l.invariant.words;
      rounded = λ H r. rw (c.step-s.ensures, ← same) (more H (l.invariant.rounded H r));
    }

pub returns : goal.returns
returns c =
    let l = c.loop-t in
    let e : l.t ≡ 20 * c.args.stage + 20 = omega arith in
    rw (← e) l.invariant
