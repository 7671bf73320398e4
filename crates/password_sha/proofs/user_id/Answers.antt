-- `password_sha::user_id` meets its contract: the raised name over ten blanks. Assumes nothing.
use mathlib.Core.Path.{ap, ◌∙◌}
use Rattle.names.proofs.Held.{held-within}
use Rattle.password_sha.proofs.Texts.{over-blanks}
use Rattle.password_sha.proofs.user_id.Goals as goal

pub slice_bounds-put-end : goal.slice_bounds-put-end
slice_bounds-put-end c = held-within c.args.name.now c.requires c.profile_name-held.result c.profile_name-held.ensures

pub returns : goal.returns
returns c =
    ap (λ o. o.lent) (c.put.ensures ∙ over-blanks c.args.name.now c.requires c.profile_name-held.result c.profile_name-held.ensures)
