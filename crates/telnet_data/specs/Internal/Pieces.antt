-- The pieces of a stretch of data, plain bytes and doubled 255s: what the private functions of this crate answer and
-- leave. No public promise rests on these definitions; `proofs/Stretches.antt` has the laws that join them to the
-- stretch.
use Rattle.std.specs.Prelude.{◌≡◌, Bool, false, ◌&&◌, List, [], ◌∷◌, ℕ, ◌-◌, min, eqb, length, take, drop}
use Rattle.octets.specs.Find.{up_to}
use Rattle.octets.specs.Lent.{overwrite}
use Rattle.telnet.specs.Event.{iac}

-- whether a doubled 255 is at the front
unfoldable pub is_doubled : List ℕ → Bool
is_doubled [] = false
is_doubled (b ∷ []) = false
is_doubled (b ∷ c ∷ bs) = eqb b iac && eqb c iac

-- how many plain bytes are at a place, before the next 255
abbrev pub plain : List ℕ → ℕ → ℕ
plain s at = length (up_to iac (drop at s))

-- the plain bytes at a place, or as many of them as a buffer has room for from a place on, put there
pub record PlainCopied (s : List ℕ) (at : ℕ) (out : List ℕ) (to n : ℕ) (left : List ℕ) : Type 0 where
  pub number : n ≡ min (plain s at) (length out - to)
  pub lent : left ≡ overwrite out to (take n (drop at s))
