-- `sha1_digest::with_word` meets its contract: the four bytes have room. Assumes nothing.
use mathlib.Core.Path.{◌≡◌, ◌∙◌, ap}
use native.Mathlib.Omega.{arith}
use lib.ListN.{length}
use Rattle.octets.specs.Lent.{overwrite}
use Rattle.octets.proofs.Overwrite.{length-overwrite}
use Rattle.octets.proofs.Promise.{put_whole}
use Rattle.words.specs.BigEndian.{bytes}
use Rattle.words.proofs.BigEndian.{length-bytes}
use Rattle.sha1_digest.proofs.with_word.Goals as goal

pub returns : goal.returns
returns c =
    let put = c.put in
    let a = c.args in
    let n : length (bytes 4 a.x) ≡ 4 = length-bytes 4 a.x in
    let whole = put_whole c.bytes_32.result a.digest a.at (rw (c.bytes_32.ensures, n) (omega arith)) put.ensures in
    let e : put.new.buffer ≡ overwrite a.digest a.at (bytes 4 a.x) = whole ∙ ap (overwrite a.digest a.at) c.bytes_32.ensures in
    (ap length e ∙ length-overwrite a.digest a.at (bytes 4 a.x) (rw n (omega arith)) ∙ c.requires.0, e)
