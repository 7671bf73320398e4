-- `password_des::padded` meets its contract: the sixteen bytes fill the array. Assumes nothing.
use Rattle.std.proofs.Common.{◌≡◌, length, replicate, ap, ◌∙◌, arith}
use Rattle.names.specs.Padding.{filled}
use Rattle.names.specs.Ebcdic.{blank, ebcdic_of}
use Rattle.names.proofs.Text.{length-filled}
use Rattle.password_des.proofs.Padding.{length-ebcdic}
use Rattle.octets.proofs.Promise.{put-filling}
use Rattle.password_des.proofs.padded.Goals as goal

pub returns : goal.returns
returns c =
    let t = c.args.text.now in
    let fills : length (filled blank 16 (ebcdic_of t)) ≡ 16 = omega (arith, length-filled blank 16 (ebcdic_of t), length-ebcdic t) in
    ap (λ o. o.lent) (c.put_ebcdic.ensures ∙ put-filling (filled blank 16 (ebcdic_of t)) (replicate 16 0) fills)
