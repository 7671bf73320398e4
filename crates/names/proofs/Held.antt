-- A profile name as it is held: how long it is, and its bytes; and what is raised is a raised name. Assumes nothing.
use mathlib.Core.Path.{◌≡◌, ◌∙◌}
use mathlib.Core.Bool.{true}
use mathlib.Core.List.{List}
use Prim.Native.Nat.{ℕ, ◌-◌, ◌≤◌}
use native.Mathlib.Nat.{sub-zero}
use native.Mathlib.Omega.{arith}
use lib.ListN.{length, take, replicate, length-map}
use lib.Seq.{take-append_seam}
use Rattle.names.specs.declared.Name.{Name}
use Rattle.names.specs.Name.{raised_byte, raised, is_name, is_raised_name, name, named, profile_limit}
use Rattle.names.specs.Padding.{filled}
use Rattle.names.proofs.Text.{length-filled, name-length}

pub length-raised : (t : List ℕ) → length (raised t) ≡ length t
length-raised t = length-map t raised_byte

pub raised-is-raised : (limit : ℕ) (t : List ℕ) → is_raised_name limit (raised t) ≡ is_name limit t
unfolding is_raised_name is_name
raised-is-raised limit t = rw (length-raised t)

module _ (t : List ℕ) (good : is_name profile_limit t ≡ true) where
  pub raised-within : length (raised t) ≤ 10
  raised-within = rw (length-raised t) (name-length profile_limit t good)

  module _ (n : Name) (h : n ≡ named profile_limit t) where
    is_held : n ≡ name (raised t)
    unfolding named
    is_held = h ∙ rw good

    pub held-length : n.length ≡ length (raised t)
    held-length = rw is_held

    pub held-within : n.length ≤ length n.bytes
    held-within = rw is_held (omega (arith, length-filled 0 10 (raised t)))

    pub held_bytes : take (n.length - 0) n.bytes ≡ raised t
    unfolding filled
    held_bytes = rw (is_held, sub-zero) (take-append_seam (raised t) (replicate (10 - length (raised t)) 0))
