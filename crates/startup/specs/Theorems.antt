-- What is proved of response records: for a good system name and a good device name, and of the two that RFC 4777
-- prints. The proofs are in `proofs/Records.antt`.
use Rattle.std.specs.Prelude.{◌≡◌, Bool, true, false, List, [], ◌∷◌, ◌++◌, ◌↔◌, ◌⊎◌, ℕ, ◌+◌, ◌-◌, T, length, take, drop, replicate}
use Rattle.octets.specs.Ascii.{ascii}
use Rattle.words.specs.BigEndian.{bytes}
use Rattle.names.specs.Ebcdic.{ebcdic_of}
use Rattle.names.specs.Name.{is_name, device_limit, system_limit}
use Rattle.telnet.specs.Event.{run, command, eor}
use Rattle.telnet.specs.Write.{doubled, written_all}
use Rattle.telnet.specs.Record.{record_of, complete}
use Rattle.signon.specs.declared.Verdict.{Verdict}
use Rattle.signon.specs.declared.Verdict.TheVariants.{Panel, NotKnown, Disabled, Failed, Grant}
use Rattle.startup.specs.Response.{session_started, device_not_available, figure1, figure2, response_of}

-- a record's fixed value fields and its response code
abbrev pub fixed_at : List ℕ → List ℕ
fixed_at r = take 12 (drop 4 r)

abbrev pub code_at : List ℕ → List ℕ
code_at r = take 4 (drop 16 r)

-- a record says a code
abbrev pub Says : (r code : List ℕ) → Type 0
Says r code = code_at r ≡ ebcdic_of code

-- what holds of the record for a fault or none, a verdict and two names
pub record Responds (fault : Bool) (v : Verdict) (system device r : List ℕ) : Type 0 where
  -- it has 73 bytes, and its first two say so
  pub size : length r ≡ 73
  pub says : take 2 r ≡ bytes 2 73
  -- in bytes 20 to 27 the system name, in bytes 28 to 37 the device name, each in EBCDIC with blanks after it, and
  -- zeros after them
  pub system_name : take 8 (drop 20 r) ≡ ebcdic_of system ++ replicate (8 - length system) 0x40
  pub device_name : take 10 (drop 28 r) ≡ ebcdic_of device ++ replicate (10 - length device) 0x40
  pub tail : drop 38 r ≡ replicate 35 0
  -- written as a run and an end-of-record it reads back as one record, whatever the names
  pub reads_back : (bs : List ℕ) → record_of (written_all (run r ∷ command eor ∷ []) ++ bs) ≡ complete r (length (doubled r) + 2)
  -- the code determines fault and verdict, and is determined by them
  pub device_fault : Says r device_not_available ↔ (fault ≡ true)
  pub not_known : Says r (ascii "0002") ↔ ((fault ≡ false) × (v ≡ NotKnown))
  pub disabled : Says r (ascii "0003") ↔ ((fault ≡ false) × (v ≡ Disabled))
  pub failed : Says r (ascii "0004") ↔ ((fault ≡ false) × (v ≡ Failed))
  pub success : Says r session_started ↔ ((fault ≡ false) × ((v ≡ Grant) ⊎ (v ≡ Panel)))
  -- figure 1's fields are in a success, figure 2's in every error
  pub succeeds : Says r session_started → fixed_at r ≡ figure1
  pub fails : (Says r session_started → ⊥) → fixed_at r ≡ figure2

abbrev pub ResponsesAreRight : Type 0
ResponsesAreRight =
    (fault : Bool) (v : Verdict) (system device : List ℕ) → T (is_name system_limit system) → T (is_name device_limit device)
    → Responds fault v system device (response_of fault v system device)

-- The two records of RFC 4777, 10.1 and 10.2, in the rows of figures 1 and 2: a session that has started, and a device
-- that is not available.
pub record Figures : Type 0 where
  pub first : response_of false Grant (ascii "TARGET") (ascii "PCPRINTER")
      ≡ bytes 32 0x004912A090000560060020C0003D0000C9F9F0F2E3C1D9C7C5E34040D7C3D7D9
      ++ (bytes 32 0xC9D5E3C5D9400000000000000000000000000000000000000000000000000000 ++ bytes 9 0x000000000000000000)
  pub second : response_of true Grant (ascii "TARGET") (ascii "PCPRINTER")
      ≡ bytes 32 0x004912A09000056006008200003D0000F8F9F0F2E3C1D9C7C5E34040D7C3D7D9
      ++ (bytes 32 0xC9D5E3C5D9400000000000000000000000000000000000000000000000000000 ++ bytes 9 0x000000000000000000)
