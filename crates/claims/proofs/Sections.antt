-- For good names and passwords the entry points answer the sections' tokens and substitutes. Assumes nothing.
use denote.Floats.{is_true}
use Rattle.names.specs.Name.{is_name, profile_limit}
use Rattle.password_des.specs.Answer.{des_password_limit, des_token, des_substitute}
use Rattle.password_sha.specs.Sha.{is_password}
use Rattle.password_sha.specs.Answer.{sha_token, sha_substitute}
use Rattle.claims.specs.Sections.{DesTokenOfTheSection, DesSubstituteOfTheSection, ShaTokenOfTheSection, ShaSubstituteOfTheSection}

pub des-token-of-the-section : DesTokenOfTheSection
unfolding des_token
des-token-of-the-section name password n p = rw (is_true (is_name profile_limit name) n, is_true (is_name des_password_limit password) p)

pub des-substitute-of-the-section : DesSubstituteOfTheSection
unfolding des_substitute
des-substitute-of-the-section token name server client n = rw (is_true (is_name profile_limit name) n)

pub sha-token-of-the-section : ShaTokenOfTheSection
unfolding sha_token
sha-token-of-the-section name password n p = rw (is_true (is_name profile_limit name) n, is_true (is_password password) p)

pub sha-substitute-of-the-section : ShaSubstituteOfTheSection
unfolding sha_substitute
sha-substitute-of-the-section token name server client n = rw (is_true (is_name profile_limit name) n)
