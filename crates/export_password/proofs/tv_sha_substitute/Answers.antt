-- `export_password::tv_sha_substitute` meets its contract: by the length of the token. Assumes nothing.
use Rattle.std.specs.Prelude.{Result}
use mathlib.Core.Path.{◌≡◌, ap, ◌∙◌}
use mathlib.Core.List.{List}
use Prim.Native.Nat.{ℕ}
use borrow.Author.Tests.{eq-eqb, ne_eqb}
use lib.ListN.{length}
use Rattle.refusal.specs.declared.Refusal.{Refusal}
use Rattle.password_sha.specs.Answer.{sha_substitute}
use Rattle.export_password.specs.Numbers.{sha_length, substitute_into}
use Rattle.export_password.proofs.tv_sha_substitute.Goals as goal

pub returns-in_default : goal.returns-in_default
unfolding substitute_into
returns-in_default c =
    rw (c.written_numbers.ensures, ne_eqb (length c.args.token.now) sha_length c.in_default.ensures.1)

pub returns : goal.returns
unfolding substitute_into
returns c =
    let a = c.args in
    let is = c.in-Ok.ensures.1 in
    let substitute : List ℕ → Result (List ℕ) Refusal = λ t. sha_substitute t a.name.now a.server_seed a.client_seed in
    let e : c.sha_substitute-substitute.result ≡ substitute a.token.now = c.sha_substitute-substitute.ensures ∙ ap substitute is.same in
    rw (eq-eqb (length a.token.now) sha_length is.long, ← e, c.written_numbers-2.ensures) c.put_hash.ensures
