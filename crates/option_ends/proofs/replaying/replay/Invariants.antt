use Rattle.std.proofs.Common.{◌≡◌, take}
use Rattle.option_rules.specs.Table.{rules_of}
use Rattle.option_ends.specs.Replay.{calls_of, replayed, seen}
use Rattle.option_ends.proofs.replaying.replay.Given as goal

abbrev pub invariant-loop-byte : goal.invariant-loop-byte
invariant-loop-byte l = seen l.past ≡ replayed (rules_of l.option) (calls_of (take l.byte-index l.calls))
