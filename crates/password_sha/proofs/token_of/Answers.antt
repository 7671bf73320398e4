-- `password_sha::token_of` meets its contract: the two pieces, one after the other, are hashed. Assumes nothing.
use mathlib.Core.Path.{ap, ◌∙◌}
use Prim.Native.Nat.{◌+◌, ◌-◌, ◌*◌}
use lib.ListN.{length, take, replicate}
use Rattle.octets.specs.Lent.{overwrite}
use Rattle.sha1_hash.specs.Sha1.{sha1}
use Rattle.password_sha.specs.Sha.{unicode, PW-token}
use Rattle.password_sha.proofs.Messages.{token-text}
use Rattle.password_sha.proofs.token_of.Goals as goal

pub returns : goal.returns
unfolding PW-token
returns c =
    let t = c.args.name.now in
    let p = c.args.password.now in
    let first = c.put_unicode.ensures ∙ ap (λ u. overwrite (replicate 276 0) 0 (unicode u)) c.user_id-id.ensures in
    let both = c.put_unicode-2.ensures ∙ ap (λ m. overwrite m 20 (unicode p)) first in
    c.digest.ensures ∙ ap sha1 (ap (take (20 + 2 * length p - 0)) both ∙ token-text t p c.requires.0 c.requires.1)
