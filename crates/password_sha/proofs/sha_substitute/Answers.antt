-- `password_sha::sha_substitute` meets its contract. Assumes nothing.
use mathlib.Core.Path.{sym, ap, ◌∙◌}
use Rattle.std.specs.Prelude.{Ok}
use Rattle.sha1_hash.specs.Sha1.{sha1}
use Rattle.password_sha.specs.Sha.{PW-SUB}
use Rattle.password_sha.specs.Answer.{sha_substitute}
use mathlib.Core.Bool.{not}
use Rattle.password_sha.proofs.sha_substitute.Goals as goal

pub returns-then-not-is_name : goal.returns-then-not-is_name
unfolding sha_substitute
returns-then-not-is_name c = rw (← c.is_name.ensures, (ap not c.if-not-is_name.true))

pub substituted-requires : goal.substituted-requires
substituted-requires c = sym c.is_name.ensures ∙ c.if-not-is_name.false

pub returns : goal.returns
unfolding sha_substitute PW-SUB
returns c =
    rw (← c.is_name.ensures, (ap not c.if-not-is_name.false)) (ap Ok (c.digest.ensures ∙ ap sha1 c.substituted.ensures))
