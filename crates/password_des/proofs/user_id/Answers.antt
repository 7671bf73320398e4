-- `password_des::user_id` meets its contract, by the two laws of `Identifier`. Assumes nothing.
use Rattle.std.proofs.Common.{take, ap, ◌∙◌, arith}
use Rattle.words.specs.BigEndian.{number}
use Rattle.password_des.specs.Des.{folded}
use Rattle.password_des.proofs.Identifier.{short, long}
use Rattle.password_des.proofs.user_id.Goals as goal

pub returns-then-name-le8 : goal.returns-then-name-le8
returns-then-name-le8 c =
    let t = c.args.name.now in
    c.word_64.ensures ∙ ap (λ l. number (take 8 l)) c.padded-id.ensures ∙ short t (omega arith)

pub returns : goal.returns
returns c =
    let t = c.args.name.now in
    c.word_64-2.ensures ∙ ap (λ l. number (take 8 l)) c.fold.ensures
    ∙ ap (λ l. number (take 8 (folded (take 10 l)))) c.padded-id.ensures ∙ long t (omega arith) (omega arith)
