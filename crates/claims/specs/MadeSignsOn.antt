-- Made, stored, offered, granted: who signs on with the name and the password that the token maker was given is
-- granted, by SHA-1, and by DES where the mark for DES was asked for and the password has a DES token (demand 2, end to
-- end: token maker, profile table, substitute and verdict).
use Rattle.std.specs.Prelude.{◌≡◌, Bool, true, List, ◌⊎◌, ℕ, ◌<◌, ◌^◌, T, take, Ok}
use Rattle.octets.specs.Bytes.{Bytes}
use Rattle.words.specs.BigEndian.{bytes}
use Rattle.env.specs.Variable.{Variable, VAR, USERVAR}
use Rattle.env.specs.Read as Read
use Rattle.profile.specs.Profile.{Profile, record_bytes}
use Rattle.profile.specs.Table.{profiles, table_of}
use Rattle.profile.specs.Theorems.{Occurs}
use Rattle.profile_maker.specs.Made.{making}
use Rattle.profile_maker.specs.Promise.{make_into}
use Rattle.password_des.specs.Answer as Des
use Rattle.password_sha.specs.Answer as Sha
use Rattle.signon.specs.declared.Verdict.TheVariants.{Grant}
use Rattle.signon.specs.Attempt.{USER, IBMRSEED, IBMSUBSPW}
use Rattle.signon.specs.Theorems.{Told}
use Rattle.signon.specs.Verdict.{answer_of}

-- what the token maker writes for a name and a password, enabled, with or without the mark for DES
pub record MadeOf (name password : List ℕ) (des : Bool) (written : List ℕ) : Type 0 where
  pub out : List ℕ
  pub count : ℕ
  pub wrote : (make_into (making name password true des) out).answer ≡ Ok count
  pub bytes : written ≡ take count (make_into (making name password true des) out).lent

-- a table that is accepted, and has a profile with that record
pub record Stored (written table : List ℕ) : Type 0 where
  pub are_bytes : Bytes table
  pub ps : List Profile
  pub accepted : table_of table ≡ profiles ps
  pub profile : Profile
  pub occurs : Occurs profile ps
  pub is_written : record_bytes profile ≡ written

-- what a client offers for a name and a password, under the seeds of server and client: the substitute of the token by
-- SHA-1,
pub record BySha (name password : List ℕ) (server client : ℕ) (offered : List ℕ) : Type 0 where
  pub token : List ℕ
  pub has_token : Sha.sha_token name password ≡ Ok token
  pub substitute : Sha.sha_substitute token name server client ≡ Ok offered

-- or, with the mark for DES, that of the token by DES
pub record ByDes (name password : List ℕ) (des : Bool) (server client : ℕ) (offered : List ℕ) : Type 0 where
  pub marked : T des
  pub token : ℕ
  pub has_token : Des.des_token name password ≡ Ok token
  pub block : ℕ
  pub substituted : Des.des_substitute token name server client ≡ Ok block
  pub substitute : offered ≡ bytes 8 block

-- a payload that is read, and has that USER, that seed, and what is offered
pub record Offered (payload user client_seed offered : List ℕ) : Type 0 where
  pub first : ℕ
  pub vs : List Variable
  pub is_read : Read.reading_of payload ≡ Read.says first vs
  pub user_told : Told vs VAR USER user
  pub seed_told : Told vs USERVAR IBMRSEED client_seed
  pub offered_told : Told vs USERVAR IBMSUBSPW offered

-- Seeds are numbers of eight bytes, the first byte highest; the client's is not zero.
abbrev pub MadeSignsOn : Type 0
MadeSignsOn =
    (name password : List ℕ) (des : Bool) (server client : ℕ) → server < 2 ^ 64 → client < 2 ^ 64 → (client ≡ 0 → ⊥)
    → (written table payload offered : List ℕ) → MadeOf name password des written → Stored written table
    → Offered payload name (bytes 8 client) offered
    → BySha name password server client offered ⊎ ByDes name password des server client offered
    → answer_of (bytes 8 server) table payload ≡ Ok Grant
