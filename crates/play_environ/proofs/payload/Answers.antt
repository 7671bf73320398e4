-- `play_environ::payload` meets its contract: what the writer leaves is computed. Assumes nothing.
use mathlib.Core.Path.{ap}
use Prim.Native.Nat.{ℕ}
use Rattle.octets.specs.Lent.{Outcome, overwrite}
use Rattle.octets.specs.Promise.{write_front}
use Rattle.octets.specs.Same.{same}
use Rattle.octets.specs.Part.{part}
use Rattle.std.specs.Prelude.{Result}
use Rattle.refusal.specs.declared.Refusal.{Refusal}
use Rattle.env.specs.Numbers.{records_from, records_of, value_by, variables_held, fits, all_placed, placed}
use Rattle.env.specs.Variable.{is_first, is_kind, is, among, repeated}
use Rattle.env.specs.Write.{escaped, written_value, written_variable, written_variables, is_empty, nameless, objection}
use Rattle.env_writer.specs.Promise.{put, write_into}
use Rattle.play_environ.proofs.payload.Goals as goal

pub returns : goal.returns
unfolding write_into is_first is_kind is among records_from records_of value_by variables_held fits all_placed placed put objection escaped written_value written_variable written_variables is_empty nameless repeated same part write_front overwrite
returns c = ap (λ (o : Outcome (Result ℕ Refusal)). o.lent) c.write.ensures
