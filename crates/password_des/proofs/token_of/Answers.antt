-- `password_des::token_of` meets its contract: the first eight bytes of the padded password are the password padded to
-- eight. Assumes nothing.
use Rattle.std.proofs.Common.{take, ap, ◌∙◌, arith}
use Rattle.words.specs.BigEndian.{number}
use Rattle.des.specs.Cipher.{enciphered}
use Rattle.des_schedule.specs.Password.{prepared}
use Rattle.password_des.proofs.Identifier.{first-eight}
use Rattle.password_des.proofs.token_of.Goals as goal

pub returns : goal.returns
returns c =
    let s = c.args in
    let bytes = ap (take 8) c.padded.ensures ∙ first-eight s.password.now (omega arith) in
    let key = c.prepare_key.ensures ∙ ap prepared (c.word_64.ensures ∙ ap number bytes) in
    c.encipher.ensures ∙ ap (λ k. enciphered k s.id) key
