-- `show_case::with_case` meets its contract. Assumes nothing.
use Rattle.std.proofs.Common.{arith}
use Rattle.show_case.proofs.Cases.{case_cut}
use Rattle.show_case.proofs.with_case.Goals as goal

pub shared_whole_as_front-f : goal.shared_whole_as_front-f
shared_whole_as_front-f g c =
    ((case_cut g.row.N c.args.line.now c.begin_case-n.new.case c.begin_case-n.result c.begin_case-n.ensures).0, omega (arith, c.requires.small))

pub returns : goal.returns
returns g c =
    (_, c.f.ensures, (case_cut g.row.N c.args.line.now c.begin_case-n.new.case c.begin_case-n.result c.begin_case-n.ensures).1)
