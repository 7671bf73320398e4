-- `env_records::fits` meets its contract. Assumes nothing.
use mathlib.Core.Path.{◌≡◌, sym, ap, ◌∙◌}
use mathlib.Core.Bool.{not}
use mathlib.Core.Logic.{⊎_elim}
use Prim.Native.Nat.{ℕ, ◌+◌}
use borrow.Author.Tests.{lt-ltb, le-ltb, lt-leb, le-leb}
use lib.Dec.{leb, ltb}
use Rattle.octets.proofs.Order.{below-or-above}
use Rattle.env_records.proofs.fits.Goals as goal

not-below : (a b : ℕ) → not (ltb a b) ≡ leb b a
not-below a b = ⊎_elim (λ h. ap not (lt-ltb a b h) ∙ sym (lt-leb b a h)) (λ h. ap not (le-ltb a b h) ∙ sym (le-leb b a h)) (below-or-above a b)

pub returns : goal.returns
returns c =
    let s = c.args in
    ap not c.no_room.ensures ∙ not-below s.length (s.at + s.n)
