-- One table in bytes, read by computation: the theorem `Theorems.ExampleRead`. Assumes nothing.
use mathlib.Core.Path.{◌≡◌, refl}
use mathlib.Core.Bool.{true, false}
use mathlib.Core.List.{[], ◌∷◌}
use Rattle.octets.specs.Ascii.{ascii}
use Rattle.words.specs.BigEndian.{bytes}
use Rattle.names.specs.Range.{every}
use Rattle.names.specs.Name.{is_name_byte, is_raised_name}
use Rattle.names.specs.Order.{precedes}
use Rattle.profile.specs.Profile.{shape_of, Profile, marks_of, tokens_of, sum_of}
use Rattle.profile.specs.Table.{is_record, profiles, add_profile, unless_end, profiles_from, table_of}
use Rattle.profile.specs.Theorems.{example_record, ExampleRead}

-- the profile that the record says
abbrev user : Profile
user = record {
  marks = true ∷ false ∷ [];
  name = ascii "U";
  tokens = bytes 8 0xD1D2D3D4D5D6D7D8 ∷ bytes 20 0xA1A2A3A4A5A6A7A8A9AAABACADAEAFB0B1B2B3B4 ∷ [];
}

reads : table_of (0x01 ∷ example_record) ≡ profiles (user ∷ [])
unfolding table_of profiles_from unless_end add_profile is_record is_raised_name is_name_byte
    every precedes shape_of marks_of tokens_of sum_of bytes
reads = refl

pub example-read : ExampleRead
example-read = record {
  profile = user;
  reads = reads;
  says = record { name = refl; is_enabled = refl; is_des_allowed = refl; des = refl; sha = refl };
}
