-- What one call does to a standing, near the code: the replay's own functions promise these.
use Rattle.std.specs.Prelude.{ℕ, ◌+◌, List, ◌++◌, take, if◌then◌else◌}
use Rattle.option_rules.specs.declared.Command.{Command}
use Rattle.option_rules.specs.declared.Side.{Side}
use Rattle.option_rules.specs.declared.Step.{Step}
use Rattle.option_rules.specs.Table.{Row}
use Rattle.option_ends.specs.Ends.{near, Call, AtEnd, Ends, ends, CallResult, changed, after, count_where, sent_by, is_command, sends, granted}
use Rattle.option_ends.specs.Replay.{Standing}

-- two ends, with one standing's counts added to another's
abbrev pub plus : Standing → Standing → Ends → Standing
plus s d t = record { at = t; sent = s.sent + d.sent; granted = s.granted + d.granted }

-- where a list of calls leads from a standing
unfoldable pub onward : (Side → Row) → Standing → List Call → Standing
onward rules s ks =
    record {
      at = after rules s.at ks;
      sent = s.sent + count_where sends rules s.at ks;
      granted = s.granted + count_where granted rules s.at ks;
    }

-- a line of the code has room for two commands
abbrev pub room_for_two : Ends → Ends
room_for_two t = ends t.at_near.state (take 2 t.at_near.coming) t.at_far.state (take 2 t.at_far.coming)

abbrev pub clipped : Standing → Standing
clipped s = record { at = room_for_two s.at; sent = s.sent; granted = s.granted }

-- what a step of the near end leaves, with a count of its own
abbrev pub leaves : Step → List Command → AtEnd → ℕ → Standing
leaves s rest other g =
    record {
      at = ends s.side rest other.state (other.coming ++ sent_by s.sends);
      sent = if is_command s.sends then 1 else 0;
      granted = g;
    }

-- what a call of the near end comes to, with counts of its own
abbrev pub turn : Ends → CallResult → Standing
turn t m = record { at = changed t near m; sent = if sends near m then 1 else 0; granted = if granted near m then 1 else 0 }
