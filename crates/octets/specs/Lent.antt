-- What a function answers and leaves in the buffer that it is lent, as one value: every writer's promise is an equation
-- of two outcomes.
use Rattle.std.specs.Prelude.{◌≡◌, ℕ, ◌+◌, List, ◌++◌, length, take, drop}

pub record Outcome (A : Type 0) : Type 0 where
  pub answer : A
  pub lent : List ℕ

abbrev pub outcome : {A : Type 0} → A → List ℕ → Outcome A
outcome a l = record { answer = a; lent = l }

-- a buffer with bytes put at a place: everything before and after them is as it was
unfoldable pub overwrite : (buffer : List ℕ) → ℕ → (bytes : List ℕ) → List ℕ
overwrite buffer at bytes = take at buffer ++ (bytes ++ drop (at + length bytes) buffer)

-- bytes put to the front of a buffer, and how many
abbrev pub at_front : (bytes buffer : List ℕ) → Outcome ℕ
at_front bytes buffer = outcome (length bytes) (overwrite buffer 0 bytes)

-- bytes put at a place, told by the place after them and by the buffer as it is left
pub record IsPut (bytes buffer : List ℕ) (at after : ℕ) (left : List ℕ) : Type 0 where
  pub place : after ≡ at + length bytes
  pub lent : left ≡ overwrite buffer at bytes
