-- What the private function that measures the listing answers. No public promise rests on this definition.
use Rattle.std.specs.Prelude.{List, ℕ, ltb, length, if◌then◌else◌, Result, Ok, Err}
use Rattle.refusal.specs.declared.Refusal.{Refusal}
use Rattle.refusal.specs.declared.Refusal.TheVariants.{NoRoom}

-- the length of a text, if there is room for it
unfoldable pub sized : List ℕ → ℕ → Result ℕ Refusal
sized words room = if ltb room (length words) then Err NoRoom else Ok (length words)
