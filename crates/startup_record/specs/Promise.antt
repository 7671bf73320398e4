-- What the writer of response records answers, and what it leaves in the buffer that it is lent: 36 for either name,
-- and 4 last.
use Rattle.std.specs.Prelude.{Bool, not, List, ℕ, if◌then◌else◌, Result, Err}
use Rattle.octets.specs.Lent.{Outcome, outcome}
use Rattle.refusal.specs.declared.Refusal.{Refusal}
use Rattle.refusal.specs.declared.Refusal.TheVariants.{BadDeviceOrSystemName}
use Rattle.refusal.specs.Written.{written_into}
use Rattle.names.specs.Name.{is_name, device_limit, system_limit}
use Rattle.signon.specs.declared.Verdict.{Verdict}
use Rattle.startup.specs.Response.{response_of}

unfoldable pub respond_into : Bool → Verdict → (system device out : List ℕ) → Outcome (Result ℕ Refusal)
respond_into fault v system device out =
    if not (is_name device_limit device) then outcome (Err BadDeviceOrSystemName) out else
    if not (is_name system_limit system) then outcome (Err BadDeviceOrSystemName) out else
    written_into (response_of fault v system device) out
