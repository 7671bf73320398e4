-- The listing of a stream (specification, the end of "Worked lines of the line"): a line for each event, with its place
-- and what it is, and one for how the stream ended.
use Rattle.std.specs.Prelude.{ℕ, ◌+◌, List, [], ◌∷◌, ◌++◌, length}
use Rattle.telnet.specs.Event.{Event, kind, carried_bytes}
use Rattle.telnet.specs.Write.{written}
use Rattle.telnet.specs.Whole.{Ending, reading}
use Rattle.telnet_line.specs.Line.{text, ending_text, line}

-- the lines from a place on: of the events there, and of how they ended
unfoldable pub lines_from : ℕ → List Event → Ending → List ℕ
lines_from place [] how = line place (ending_text how)
lines_from place (e ∷ es) how = line place (text (kind e) (length (carried_bytes e))) ++ lines_from (place + length (written e)) es how

-- the whole listing of a stream
unfoldable pub listing : List ℕ → List ℕ
listing bs = lines_from 0 (reading bs).events (reading bs).ending
