-- The numbers of each answer of the tokens and substitutes, and what is left in the buffer that is lent for one.
use Rattle.std.specs.Prelude.{ℕ, not, List, eqb, length, if◌then◌else◌, Result, Ok, Err}
use Rattle.password_sha.specs.Answer.{sha_substitute}
use Rattle.export_password.specs.declared.TvBlock.{TvBlock}
use Rattle.export.specs.declared.TvWritten.{TvWritten}
use Rattle.export.specs.Numbers.{wrote, not_written}
use Rattle.refusal.specs.declared.Refusal.{Refusal}
use Rattle.refusal.specs.Refusal.{number, no_room, bad_profile}
use Rattle.octets.specs.Lent.{Outcome, outcome}
use Rattle.octets.specs.Promise.{write_front}

-- how many bytes a token or a substitute of SHA-1 has
abbrev pub sha_length : ℕ
sha_length = 20

abbrev pub block_numbers : Result ℕ Refusal → TvBlock
block_numbers (Ok v) = record { refusal = 0; value = v }
block_numbers (Err e) = record { refusal = number e; value = 0 }

-- a hash value written to the front of a buffer, or why there is none; 4 last
unfoldable pub hash_into : Result (List ℕ) Refusal → List ℕ → Outcome TvWritten
hash_into (Ok bytes) out = write_front wrote (not_written no_room) bytes out
hash_into (Err e) out = outcome (not_written (number e)) out

-- the substitute for a token, written likewise; a token of another length is of no record
unfoldable pub substitute_into : (token name : List ℕ) (server_seed client_seed : ℕ) (out : List ℕ) → Outcome TvWritten
substitute_into token name server_seed client_seed out =
    if not (eqb (length token) sha_length) then outcome (not_written bad_profile) out else
    hash_into (sha_substitute token name server_seed client_seed) out
