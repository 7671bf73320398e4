-- What the token maker answers, and what it leaves in the buffer that it is lent: 33 before 34, and 4 last.
use Rattle.std.specs.Prelude.{not, List, ℕ, if◌then◌else◌, Result, Err}
use Rattle.octets.specs.Lent.{Outcome, outcome}
use Rattle.refusal.specs.declared.Refusal.{Refusal}
use Rattle.refusal.specs.declared.Refusal.TheVariants.{BadProfileName, BadPassword}
use Rattle.refusal.specs.Written.{written_into}
use Rattle.names.specs.Name.{is_name, profile_limit}
use Rattle.password_sha.specs.Sha.{is_password}
use Rattle.profile.specs.Profile.{record_bytes}
use Rattle.profile_maker.specs.Made.{Making, made_profile}

unfoldable pub make_into : Making → List ℕ → Outcome (Result ℕ Refusal)
make_into m out =
    if not (is_name profile_limit m.name) then outcome (Err BadProfileName) out else
    if not (is_password m.password) then outcome (Err BadPassword) out else
    written_into (record_bytes (made_profile m)) out
