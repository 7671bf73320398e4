-- The laws of the chain: one block more, and blocks one after the other. Assumes nothing.
use mathlib.Core.Path.{◌≡◌, refl}
use mathlib.Core.List.{List, [], ◌∷◌, ◌++◌}
use Prim.Native.Nat.{ℕ}
use Rattle.sha1_hash.specs.Sha1.{Five, compressed, hashed}

pub hashed-append : (H : Five) (b d : List (List ℕ)) → hashed H (b ++ d) ≡ hashed (hashed H b) d
unfolding hashed
hashed-append H [] d = refl
hashed-append H (m ∷ b) d = hashed-append (compressed H m) b d
