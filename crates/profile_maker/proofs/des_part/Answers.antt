-- `profile_maker::des_part` meets its contract. Assumes nothing.
use Rattle.std.specs.Prelude.{Result, Ok, Err}
use mathlib.Core.Path.{◌≡◌, sym, subst, ◌∙◌}
use Prim.Native.Nat.{ℕ}
use Rattle.refusal.specs.declared.Refusal.{Refusal}
use Rattle.profile_maker.proofs.Parts.{Means, means}
use Rattle.profile_maker.proofs.des_part.Goals.{After-des_token}
use Rattle.profile_maker.proofs.des_part.Goals as goal

-- what the answer means, by what it is
told : (c : After-des_token) (b : Result ℕ Refusal) → c.des_token.result ≡ b → Means c.args.name.now c.args.password.now c.args.des_allowed b
told c b e =
    let n = c.args.name.now in
    let p = c.args.password.now in
    subst (Means n p c.args.des_allowed) (sym c.des_token.ensures ∙ e) (means n p c.args.des_allowed c.requires)

pub returns-in-Ok : goal.returns-in-Ok
returns-in-Ok c = rw c.bytes_64.ensures (told (goal.at.returns-in-Ok c).After-des_token (Ok c.in-Ok.token) c.in-Ok.is)

pub returns-in-Err : goal.returns-in-Err
returns-in-Err c = told (goal.at.returns-in-Err c).After-des_token (Err c.in-Err.field-0) c.in-Err.is
