-- What is proved of the definitions themselves.
use Rattle.std.specs.Prelude.{◌≡◌, ℕ, ◌^◌, ◌%◌, ◌≤◌, ◌<◌}
use Rattle.des.specs.Blocks.{bit, permuted}
use Rattle.des.specs.Tables.{IP, IP⁻¹}
use Rattle.des.specs.Schedule.{round_keys}

-- two keys agree in each bit but the parity bits 8, 16, .., 64
abbrev pub AgreeOffParity : ℕ → ℕ → Type 0
AgreeOffParity j k = (p : ℕ) → 0 < p → p ≤ 64 → 0 < p % 8 → bit 64 j p ≡ bit 64 k p

-- The parity bits are ignored: two keys that agree off them have the same round keys.
abbrev pub ParityIgnored : Type 0
ParityIgnored = (j k : ℕ) → AgreeOffParity j k → round_keys j ≡ round_keys k

-- The final permutation undoes the initial one.
abbrev pub FinalUndoesInitial : Type 0
FinalUndoesInitial = (x : ℕ) → x < 2 ^ 64 → permuted 64 IP⁻¹ (permuted 64 IP x) ≡ x
