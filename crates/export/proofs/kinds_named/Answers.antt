-- `export::kinds_named` meets its contract: by the laws of `KindNames`. Assumes nothing.
use Rattle.export.proofs.KindNames.{back, no-verb, no_kind}
use Rattle.export.proofs.kinds_named.Goals as goal

pub returns : goal.returns
returns c = record { back = back; no_verb = no-verb; no_kind = no_kind }
