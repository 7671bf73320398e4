-- How long good names and passwords are, and a profile name as the crate `names` holds it, put over ten blanks. Assumes
-- nothing.
use mathlib.Core.Path.{◌≡◌, ap, ◌∙◌}
use mathlib.Core.Bool.{true, ◌&&◌, and-eq-true_iff}
use mathlib.Core.List.{List}
use Prim.Native.Nat.{ℕ, ◌-◌, ◌≤◌}
use native.Mathlib.Omega.{arith}
use borrow.Author.Tests.{leb-true}
use lib.Dec.{leb}
use lib.ListN.{length, take, replicate}
use Rattle.octets.specs.Lent.{outcome}
use Rattle.octets.specs.Promise.{put_at}
use Rattle.octets.proofs.Promise.{put-fits}
use Rattle.names.specs.Name.{raised, is_name, named, profile_limit}
use Rattle.names.specs.declared.Name.{Name}
use Rattle.names.specs.Padding.{filled}
use Rattle.names.proofs.Text.{length-filled, over-pads}
use Rattle.names.proofs.Held.{raised-within, held_bytes}
use Rattle.password_sha.specs.Sha.{is_password}

pub password-length : (t : List ℕ) → is_password t ≡ true → length t ≤ 128
unfolding is_password
password-length t e =
    let n = length t in
    leb-true n 128 ((and-eq-true_iff (leb 1 n) (leb n 128)).0 ((and-eq-true_iff (leb 1 n && leb n 128) _).0 e).0).1

module _ (t : List ℕ) (good : is_name profile_limit t ≡ true) where
  pub length-blanked : length (filled 0x20 10 (raised t)) ≡ 10
  length-blanked = omega (arith, length-filled 0x20 10 (raised t), raised-within t good)

  pub over-blanks : (n : Name) → n ≡ named profile_limit t
      → put_at (take (n.length - 0) n.bytes) (replicate 10 0x20) 0 ≡ outcome true (filled 0x20 10 (raised t))
  over-blanks n h =
      rw (held_bytes t good n h)
      (put-fits (raised t) (replicate 10 0x20) 0 (omega (arith, raised-within t good)) ∙ ap (outcome true) (over-pads 0x20 10 (raised t)))
