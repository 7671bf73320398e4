-- The reason that each kind of offer gives: a clear password, a DES substitute, a SHA-1 substitute.
use Rattle.std.specs.Prelude.{ℕ, Bool, not, List, if◌then◌else◌}
use Rattle.profile.specs.Profile.{Profile, des_allowed, stored_des, stored_sha}
use Rattle.password_sha.specs.Sha.{is_password}
use Rattle.password_check.specs.Gives.{gives_clear, gives_des, gives_sha}
use Rattle.signon.specs.declared.Reason.{Reason}
use Rattle.signon.specs.declared.Reason.TheVariants.{DesNotAllowed, ClearPasswordMalformed, TokenDiffers, Granted}

abbrev pub by_token : Bool → Reason
by_token gives = if not gives then TokenDiffers else Granted

abbrev pub clear_reason : Profile → (name offered : List ℕ) → Reason
clear_reason p name offered = if not (is_password offered) then ClearPasswordMalformed else by_token (gives_clear (stored_sha p) name offered)

abbrev pub des_reason : Profile → (name server_seed client_seed offered : List ℕ) → Reason
des_reason p name server_seed client_seed offered =
    if not (des_allowed p) then DesNotAllowed else by_token (gives_des (stored_des p) name server_seed client_seed offered)

abbrev pub sha_reason : Profile → (name server_seed client_seed offered : List ℕ) → Reason
sha_reason p name server_seed client_seed offered = by_token (gives_sha (stored_sha p) name server_seed client_seed offered)
