-- `profile_tokens::sha_token` meets its contract. Assumes nothing.
use mathlib.Core.Path.{sym, ◌∙◌}
use lib.ListN.{drop}
use Rattle.profile.specs.Table.{version_of}
use Rattle.profile.proofs.Shapes.{stored-sha-at}
use Rattle.profile_tokens.proofs.sha_token.Goals as goal

pub returns : goal.returns
returns c =
    let a = c.args in
    c.token_part.ensures ∙ sym (stored-sha-at (version_of a.table.now) (drop a.at a.table.now))
