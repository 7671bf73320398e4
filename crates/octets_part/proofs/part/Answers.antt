-- `octets_part::part` meets its contract. Assumes nothing.
use Rattle.octets_part.proofs.Parts.{part-lent}
use Rattle.octets_part.proofs.part.Goals as goal

pub returns : goal.returns
returns c =
    let s = c.args in
    part-lent s.bytes.now s.at s.n _ _ c.clipped-start.ensures c.part_end-end.ensures
