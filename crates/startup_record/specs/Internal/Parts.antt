-- The fields of a record as they are put, each after those that are there.
use Rattle.std.specs.Prelude.{◌≡◌, true, List, [], ◌∷◌, ◌++◌, ℕ, ◌≤◌, length, replicate}
use Rattle.names.specs.Ebcdic.{blank, ebcdic_of}
use Rattle.names.specs.Name.{is_name, device_limit, system_limit}
use Rattle.names.specs.Padding.{filled}
use Rattle.startup.specs.Response.{fixed_fields}

abbrev pub laid_out : (code system device : List ℕ) → List ℕ
laid_out code system device =
    ((((0x00 ∷ 0x49 ∷ 0x12 ∷ 0xA0 ∷ [] ++ fixed_fields code) ++ filled blank 4 (ebcdic_of code)) ++ filled blank system_limit (ebcdic_of system))
    ++ filled blank device_limit (ebcdic_of device))
    ++ replicate 35 0

-- a code of four characters, good names, and room for a record
pub record Fits (code system device out : List ℕ) : Type 0 where
  pub four : length code ≡ 4
  pub good_system : is_name system_limit system ≡ true
  pub good_device : is_name device_limit device ≡ true
  pub room : 73 ≤ length out
