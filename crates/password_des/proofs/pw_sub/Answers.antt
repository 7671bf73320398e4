-- `password_des::pw_sub` meets its contract: the five blocks are those of the definition. Assumes nothing.
use Rattle.std.proofs.Common.{◌≡◌, take, drop, ap, ◌∙◌, arith}
use Rattle.words.specs.BigEndian.{number}
use Rattle.names.specs.Ebcdic.{ebcdic_of}
use Rattle.password_des.specs.Des.{padded_id, RDrSEQ, PW-SUB}
use Rattle.password_des.proofs.Tokens.{second-half}
use Rattle.password_des.proofs.pw_sub.Goals as goal

pub returns : goal.returns
unfolding PW-SUB
returns c =
    let s = c.args in
    let id = padded_id (ebcdic_of s.name.now) in
    let first : c.word_64.result ≡ number (take 8 id) = c.word_64.ensures ∙ ap (λ l. number (take 8 l)) c.padded-id.ensures in
    let second : c.word_64-2.result ≡ number (drop 8 id) =
    c.word_64-2.ensures ∙ ap (λ l. number (take 8 (take 8 (drop 8 l)))) c.padded-id.ensures
    ∙ ap number (second-half s.name.now (omega arith)) in
    let seq : c.rdr_seq-seq.result ≡ RDrSEQ s.server_seed = c.rdr_seq-seq.ensures in
    c.cbc_last.ensures ∙ rw (seq, first, second)
