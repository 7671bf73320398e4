-- `env_text::text_at` meets its contract: past the end there is no text, and within the bytes it is the one that was
-- scanned. Assumes nothing.
use native.Mathlib.Omega.{arith}
use Rattle.env_text.proofs.Scanning.{text-found, text-past}
use Rattle.env_text.proofs.text_at.Goals as goal

pub returns-then-s-from : goal.returns-then-s-from
returns-then-s-from c =
    let a = c.args in
    text-past a.s.now a.from (omega arith)

pub returns : goal.returns
returns c =
    let a = c.args in
    text-found a.s.now a.from c.extent_at-e.result _ c.extent_at-e.ensures c.ends_text-whole.ensures
