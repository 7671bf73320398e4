-- The start-up response record: RFC 4777, section 10, figures 1 and 2 (specification, "Response records").
use Rattle.std.specs.Prelude.{ℕ, Bool, List, [], ◌∷◌, ◌++◌, replicate, if◌then◌else◌}
use Prim.Native.String.{String}
use Rattle.octets.specs.Ascii.{ascii}
use Rattle.octets.specs.Same.{same}
use Rattle.names.specs.Ebcdic.{blank, ebcdic_of}
use Rattle.names.specs.Name.{device_limit, system_limit}
use Rattle.names.specs.Padding.{filled}
use Rattle.signon.specs.declared.Verdict.{Verdict}
use Rattle.signon.specs.Digits.{digits_of}

-- "I902", session successfully started, and "8902", device not available
abbrev pub session_started : List ℕ
session_started = ascii "I902"

abbrev pub device_not_available : List ℕ
device_not_available = ascii "8902"

-- digits, or else I902
abbrev pub or_success : List ℕ → List ℕ
or_success [] = session_started
or_success (d ∷ ds) = d ∷ ds

-- "8902 for a device fault, which outranks sign-on; else the verdict's digits; else I902"
unfoldable pub code_of : Bool → Verdict → List ℕ
code_of fault v = if fault then device_not_available else or_success (digits_of v)

-- the fixed value fields of figure 1, a success, and of figure 2, an error
abbrev pub figure1 : List ℕ
figure1 = 0x90 ∷ 0x00 ∷ 0x05 ∷ 0x60 ∷ 0x06 ∷ 0x00 ∷ 0x20 ∷ 0xC0 ∷ 0x00 ∷ 0x3D ∷ 0x00 ∷ 0x00 ∷ []

abbrev pub figure2 : List ℕ
figure2 = 0x90 ∷ 0x00 ∷ 0x05 ∷ 0x60 ∷ 0x06 ∷ 0x00 ∷ 0x82 ∷ 0x00 ∷ 0x00 ∷ 0x3D ∷ 0x00 ∷ 0x00 ∷ []

unfoldable pub fixed_fields : List ℕ → List ℕ
fixed_fields code = if same code session_started then figure1 else figure2

-- a field, by its name in the figures
pub record Field : Type 0 where
  pub name : String
  pub bytes : List ℕ

infix 4 ◌is◌
abbrev pub ◌is◌ : String → List ℕ → Field
n is bs = record { name = n; bytes = bs }

-- the fields in the figures' order; after the names there are zeros up to byte 73
unfoldable pub fields : Bool → Verdict → (system device : List ℕ) → List Field
fields fault v system device =
    ("Length pass-through data" is 0x00 ∷ 0x49 ∷ [])
    ∷ ("GDS LU6.2 header" is 0x12 ∷ 0xA0 ∷ [])
    ∷ ("Fixed value fields" is fixed_fields (code_of fault v))
    ∷ ("Response Code" is ebcdic_of (code_of fault v))
    ∷ ("System Name" is filled blank system_limit (ebcdic_of system))
    ∷ ("Object Name" is filled blank device_limit (ebcdic_of device))
    ∷ ("End of diagnostic information" is replicate 35 0)
    ∷ []

-- fields one after the other
unfoldable pub joined : List Field → List ℕ
joined [] = []
joined (f ∷ fs) = f.bytes ++ joined fs

-- the record, of names in ASCII
unfoldable pub response_of : Bool → Verdict → (system device : List ℕ) → List ℕ
response_of fault v system device = joined (fields fault v system device)
