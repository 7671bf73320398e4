-- `signon_words::put_reason` meets its contract. Assumes nothing.
use native.Mathlib.Omega.{arith}
use Rattle.octets.specs.Ascii.{ascii}
use Rattle.octets.proofs.Promise.{put_whole, both-put}
use Rattle.signon_words.proofs.put_reason.Goals as goal

pub returns : goal.returns
returns c =
    let w = c.words-text.ensures.words in
    rw (← w)
    (both-put c.words-text.result.now (ascii "\n") c.args.out.now (omega arith) (put_whole c.words-text.result.now c.args.out.now 0 (omega arith) c.put.ensures) c.put-2.ensures)
