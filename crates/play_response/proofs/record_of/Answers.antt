-- `play_response::record_of` meets its contract: of either verdict the record is computed. Assumes nothing.
use mathlib.Core.Path.{◌≡◌, refl, ap, ◌∙◌}
use mathlib.Core.Bool.{false}
use Prim.Native.Nat.{ℕ}
use lib.ListN.{replicate}
use Rattle.octets.specs.Lent.{Outcome, outcome, overwrite}
use Rattle.octets.specs.Promise.{write_front}
use Rattle.octets.specs.Same.{same}
use Rattle.std.specs.Prelude.{Result, Ok}
use Rattle.refusal.specs.declared.Refusal.{Refusal}
use Rattle.names.specs.Ebcdic.{ebcdic}
use Rattle.names.specs.Name.{raised_byte, is_name_byte, is_name}
use Rattle.names.specs.Padding.{filled as padded}
use Rattle.names.specs.Range.{every}
use Rattle.signon.specs.declared.Verdict.{Verdict}
use Rattle.signon.specs.declared.Verdict.TheVariants.{Panel, NotKnown, Disabled, Failed, Grant}
use Rattle.startup.specs.Response.{response_of, fields, joined, fixed_fields, code_of}
use Rattle.startup_record.specs.Promise.{respond_into}
use Rattle.play_response.specs.Responded.{system, device}
use Rattle.play_response.proofs.record_of.Goals as goal

-- the names are good, and the buffer is as long as the record
filled : (v : Verdict) → respond_into false v system device (replicate 73 0) ≡ outcome (Ok 73) (response_of false v system device)
unfolding respond_into is_name is_name_byte every raised_byte ebcdic padded write_front overwrite response_of fields joined fixed_fields code_of same
filled Panel = refl
filled NotKnown = refl
filled Disabled = refl
filled Failed = refl
filled Grant = refl

pub returns : goal.returns
returns c = ap (λ (o : Outcome (Result ℕ Refusal)). o.lent) (c.response.ensures ∙ filled c.args.verdict)
