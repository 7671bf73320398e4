-- What the name reader answers, and what it leaves in the buffer and the list that it fills.
use Rattle.std.specs.Prelude.{◌≡◌, List, ℕ, Result, Ok, Err, ◌+◌, ◌*◌, ◌≤◌, length}
use Rattle.env_variables.specs.declared.Held.{Held}
use Rattle.refusal.specs.declared.Refusal.{Refusal}
use Rattle.env.specs.Variable.{variable_limit}
use Rattle.env.specs.Read.{Found, variables, fault}
use Rattle.env.specs.Numbers.{record_width, packed, recorded}
use Rattle.octets.specs.Lent.{overwrite}

-- a buffer of texts and a list of records
pub record Buffers : Type 0 where
  pub bytes : List ℕ
  pub numbers : List ℕ

abbrev pub buffers : (b n : List ℕ) → Buffers
buffers b n = record { bytes = b; numbers = n }

abbrev pub held : (count used : ℕ) → Held
held c u = record { count = c; used = u }

-- bytes and numbers that were put where buffer and list had room for them; the answer is how many variables there are
-- now, and bytes
pub record Stored (x ns : List ℕ) (count at k : ℕ) (before : Buffers) (r : Result Held Refusal) (after : Buffers) : Type 0 where
  pub answer : r ≡ Ok (held count (at + length x))
  pub limit : count ≤ variable_limit
  pub within : at + length x ≤ length before.bytes
  pub texts : after.bytes ≡ overwrite before.bytes at x
  pub records : after.numbers ≡ overwrite before.numbers (record_width * k) ns

-- variables from a place on, as records k and following; after a fault nothing is said of buffer and list
unfoldable pub NameRead : Found → (at k : ℕ) → Buffers → Result Held Refusal → Buffers → Type 0
NameRead (fault e) at k before r after = r ≡ Err e
NameRead (variables vs) at k before r after = Stored (packed vs) (recorded at vs) (k + length vs) at k before r after
