-- `password_sha::substituted` meets its contract: the five pieces fill the message. Assumes nothing.
use mathlib.Core.Path.{ap, ◌∙◌}
use native.Mathlib.Omega.{arith}
use Rattle.octets.specs.Lent.{overwrite}
use Rattle.octets.specs.Promise.{put_at}
use Rattle.words.specs.BigEndian.{bytes}
use Rattle.words.proofs.BigEndian.{length-bytes}
use Rattle.password_des.specs.Des.{PWSEQs}
use Rattle.password_sha.specs.Sha.{unicode, uppercase-unicode-userid}
use Rattle.password_sha.proofs.Messages.{length-userid, substitute-put}
use Rattle.password_sha.proofs.substituted.Goals as goal

pub returns : goal.returns
returns c =
    let t = c.args.name.now in
    let message = c.put_unicode.ensures ∙ ap (λ u. overwrite c.put-3.new.buffer 36 (unicode u)) c.user_id-id.ensures in
    let a = c.args.server_seed in
    let b = c.args.client_seed in
    substitute-put c.args.token (bytes 8 a) (bytes 8 b) (uppercase-unicode-userid t) (bytes 8 PWSEQs)
    (omega (arith, c.well_formed)) (length-bytes 8 a) (length-bytes 8 b) (length-userid t c.requires) (length-bytes 8 PWSEQs)
    c.put.new.buffer c.put-2.new.buffer c.put-3.new.buffer c.put-4.new.buffer
    c.put.result c.put-2.result c.put-3.result c.put-4.result
    c.put.ensures
    (c.put-2.ensures ∙ ap (λ b. put_at b c.put.new.buffer 20) c.bytes_64.ensures)
    (c.put-3.ensures ∙ ap (λ b. put_at b c.put-2.new.buffer 28) c.bytes_64-2.ensures)
    (c.put-4.ensures ∙ ap (λ b. put_at b c.put_unicode.new.out 56) c.bytes_64-3.ensures
    ∙ ap (λ m. put_at (bytes 8 PWSEQs) m 56) message)
