-- `signon_text::explained` meets its contract. Assumes nothing.
use Rattle.octets.specs.Part.{part}
use Rattle.signon_text.proofs.explained.Goals as goal

pub returns : goal.returns
unfolding part
returns c = rw (c.part.ensures, c.announced.ensures, c.left_after.ensures.0) at c.explain.ensures
