-- What each function of this crate answers, and what it leaves in the buffer that it is lent: for every line, place and
-- room.
use Rattle.std.specs.Prelude.{ℕ, ◌+◌, ◌-◌, List, length, take, drop}
use Rattle.octets.specs.Lent.{Outcome, outcome, overwrite}
use Rattle.telnet.specs.Write.{doubled}
use Rattle.telnet.specs.Read.{data_run}
use Rattle.telnet_data.specs.declared.Extent.{Extent}

-- how many bytes the stretch of data at the front carries, and how many bytes of the line it takes
unfoldable pub count : List ℕ → ℕ
count bs = length (data_run bs)

unfoldable pub span : List ℕ → ℕ
span bs = length (doubled (data_run bs))

-- the stretch at a place, which is empty past the end
unfoldable pub extent_at : List ℕ → ℕ → Extent
extent_at s at = record { count = count (drop at s); end = at + span (drop at s) }

-- bytes of the stretch at a place, put at a place of a buffer: how many they are, and the place of the line after them
unfoldable pub copied : (at : ℕ) (out : List ℕ) (to : ℕ) (d : List ℕ) → Outcome Extent
copied at out to d = outcome (record { count = length d; end = at + length (doubled d) }) (overwrite out to d)

-- as much of the stretch at a place as a buffer has room for from a place on, put there
unfoldable pub copy_run : (s : List ℕ) (at : ℕ) (out : List ℕ) (to : ℕ) → Outcome Extent
copy_run s at out to = copied at out to (take (length out - to) (data_run (drop at s)))
