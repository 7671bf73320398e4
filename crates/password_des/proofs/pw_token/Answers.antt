-- `password_des::pw_token` meets its contract, by the laws of one key and of two. Assumes nothing.
use Rattle.std.proofs.Common.{◌-◌, length, take, drop, ap, ◌∙◌, ap₂, arith}
use lib.Bits.{bit_xor}
use Rattle.names.specs.Ebcdic.{ebcdic_of}
use Rattle.des.specs.Cipher.{enciphered}
use Rattle.password_des.specs.Des.{SHIFT-RESULT}
use Rattle.password_des.proofs.Tokens.{one_key, two-keys}
use Rattle.password_des.proofs.pw_token.Goals as goal

pub returns-then-password-le8 : goal.returns-then-password-le8
returns-then-password-le8 c =
    let s = c.args in
    c.token_of.ensures ∙ ap (enciphered (SHIFT-RESULT (ebcdic_of s.password.now))) c.user_id-id.ensures
    ∙ one_key s.password.now (ebcdic_of s.name.now) (omega arith)

pub returns : goal.returns
returns c =
    let s = c.args in
    let p = s.password.now in
    let id = c.user_id-id.ensures in
    let a = c.token_of-2.ensures ∙ ap (enciphered (SHIFT-RESULT (ebcdic_of (take 8 p)))) id in
    let b = c.token_of-3.ensures ∙ ap (enciphered (SHIFT-RESULT (ebcdic_of (take (length p - 8) (drop 8 p))))) id in
    ap₂ bit_xor a b ∙ two-keys p (ebcdic_of s.name.now) (omega arith)
