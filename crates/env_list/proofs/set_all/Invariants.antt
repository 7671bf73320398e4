-- `env_list::set_all` meets its contract. The loop's invariant: the first k records are set.
-- Assumes nothing.
use Rattle.std.proofs.Common.{◌≡◌, ◌≤◌}
use Rattle.env_list.proofs.Firsts.{begun}
use Rattle.env_list.proofs.set_all.Given as goal

abbrev pub invariant-loop-k : goal.invariant-loop-k
invariant-loop-k l = (l.k ≤ l.n) × (l.records ≡ begun l.numbers l.k l.initial.records)
