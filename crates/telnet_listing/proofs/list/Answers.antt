-- `telnet_listing::list` meets its contract. Assumes nothing.
use Rattle.std.specs.Prelude.{Ok, Err}
use Rattle.std.proofs.lemmas.Result.{err_from_is_err_and}
use mathlib.Core.Path.{sym, ap, ◌∙◌}
use Prim.Native.Nat.{ℕ}
use lib.ListN.{length}
use Rattle.octets.specs.Lent.{Outcome, outcome}
use Rattle.octets.proofs.Promise.{front-short, front_fits}
use Rattle.telnet_listing.specs.Listing.{listing}
use Rattle.telnet_listing.proofs.Sized.{wrote-fits, refused-past}
use Rattle.telnet_listing.proofs.list.Goals as goal

pub put_lines-requires : goal.put_lines-requires
put_lines-requires c =
    let a = c.args in
    (wrote-fits (listing a.s.now) (length a.out.now) (sym c.listing_length.ensures ∙ c.in_ok-listing_length.was)).0

pub returns : goal.returns
returns c =
    let a = c.args in
    let x = listing a.s.now in
    let w = wrote-fits x (length a.out.now) (sym c.listing_length.ensures ∙ c.in_ok-listing_length.was) in
    ap (λ (o : Outcome ℕ). outcome (Ok o.answer) o.lent) c.put_lines.ensures ∙ sym (front_fits _ _ x a.out.now w.0)

pub returns-in_err-listing_length : goal.returns-in_err-listing_length
returns-in_err-listing_length c =
    let a = c.args in
    let x = listing a.s.now in
    let p = err_from_is_err_and c.from_residual.result c.from_residual.ensures.1 in
    let r = refused-past x (length a.out.now) (sym c.listing_length.ensures ∙ c.in_err-listing_length.was) in
    rw (p.1, p.2) (ap (λ why. outcome (Err why) a.out.now) r.1 ∙ sym (front-short _ _ x a.out.now r.0))
