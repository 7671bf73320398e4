-- What the private functions that put variables ask for. No public promise rests on these definitions.
use Rattle.std.specs.Prelude.{◌≡◌, true, List, ℕ, ◌+◌, ◌≤◌, length}
use Rattle.env.specs.Write.{written_variables}
use Rattle.env.specs.Numbers.{variables_held, placed}

-- records with their names and values in the buffer, and room for their variables after the first byte
pub record HasRoom (bytes numbers out : List ℕ) : Type 0 where
  pub all_placed : placed bytes numbers ≡ true
  pub room : 1 + length (written_variables (variables_held bytes numbers)) ≤ length out
