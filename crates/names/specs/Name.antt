-- Profile names, device names and system names (specification, "Tokens, substitutes, verdicts" and "Response records"),
-- in ASCII.
use Rattle.std.specs.Prelude.{Bool, ◌&&◌, ◌||◌, List, [], map, ℕ, ◌-◌, eqb, leb, length, if◌then◌else◌}
use Rattle.names.specs.declared.Name.{Name}
use Rattle.names.specs.Range.{in_range, every}
use Rattle.names.specs.Padding.{filled}

-- a lower case letter raised, any other byte as it is
unfoldable pub raised_byte : ℕ → ℕ
raised_byte b = if in_range 0x61 0x7A b then b - 0x20 else b

-- a text with its lower case raised
abbrev pub raised : List ℕ → List ℕ
raised text = map raised_byte text

-- whether a byte is one of A-Z, 0-9, $ # @ _
unfoldable pub is_name_byte : ℕ → Bool
is_name_byte b = in_range 0x41 0x5A b || in_range 0x30 0x39 b || eqb b 0x24 || eqb b 0x23 || eqb b 0x40 || eqb b 0x5F

-- whether a text is a name of at most `limit` bytes, lower case raised first
unfoldable pub is_name : ℕ → List ℕ → Bool
is_name limit text = leb 1 (length text) && leb (length text) limit && every is_name_byte (raised text)

-- whether a text is such a name as it is, with no lower case
unfoldable pub is_raised_name : ℕ → List ℕ → Bool
is_raised_name limit text = leb 1 (length text) && leb (length text) limit && every is_name_byte text

-- a name as it is held: its bytes with zeros after them, and their number
abbrev pub name : List ℕ → Name
name n = record { bytes = filled 0 10 n; length = length n }

-- the answer that a text is no name
abbrev pub no_name : Name
no_name = name []

-- the name that a text gives, or that it gives none
unfoldable pub named : ℕ → List ℕ → Name
named limit text = if is_name limit text then name (raised text) else no_name

-- "Profile names: 1 to 10"
abbrev pub profile_limit : ℕ
profile_limit = 10

-- "Device names follow the profile name rule"
abbrev pub device_limit : ℕ
device_limit = profile_limit

-- "system names too, at most 8"
abbrev pub system_limit : ℕ
system_limit = 8
