-- Lists of calls as bytes, and what a replay of them over two ends returns.
use Rattle.std.specs.Prelude.{ℕ, ◌-◌, true, false, List, [], ◌∷◌, ◌++◌, eqb, ltb, if◌then◌else◌}
use Rattle.option_rules.specs.declared.Command.{Command}
use Rattle.option_rules.specs.declared.Command.TheVariants.{On as on, Off as off}
use Rattle.option_rules.specs.declared.Side.{Side}
use Rattle.option_ends.specs.declared.Line.{Line}
use Rattle.option_ends.specs.declared.Line.TheVariants.{Empty, One, Two}
use Rattle.option_ends.specs.declared.Peer.{Peer}
use Rattle.option_ends.specs.declared.Replayed.{Replayed}
use Rattle.option_rules.specs.Table.{Row}
use Rattle.option_ends.specs.Ends.{near, far, Act, request, receive, Call, ◌does◌, AtEnd, Ends, fresh, after}
use Rattle.option_ends.specs.Agreement.{commands_sent, requests_not_refused}

unfoldable pub act_of : ℕ → Act
act_of n =
    if eqb n 0 then request on else
    if eqb n 1 then request off else
    if eqb n 2 then receive true else
    receive false

-- The near end's calls are 0 to 3, the far end's 4 to 7: request on, request off, receive accepting, receive declining.
-- Any other byte is no call, as a receipt on an empty line is none: it changes nothing and is not counted.
unfoldable pub call_of : ℕ → List Call
call_of b =
    if ltb b 4 then (near does act_of b) ∷ [] else
    if ltb b 8 then (far does act_of (b - 4)) ∷ [] else
    []

unfoldable pub calls_of : List ℕ → List Call
calls_of [] = []
calls_of (b ∷ bs) = call_of b ++ calls_of bs

-- two ends, with the commands sent and the requests not refused on the way there
pub record Standing : Type 0 where
  pub at : Ends
  pub sent : ℕ
  pub granted : ℕ

-- where a list of calls leads from two fresh ends
abbrev pub replayed : (Side → Row) → List Call → Standing
replayed rules ks = record { at = after rules fresh ks; sent = commands_sent rules ks; granted = requests_not_refused rules ks }

-- what the code holds: the commands of a line, an end, and both with the totals
abbrev pub commands : Line → List Command
commands Empty = []
commands (One c) = c ∷ []
commands (Two c d) = c ∷ d ∷ []

abbrev pub at_end : Peer → AtEnd
at_end p = record { state = p.side; coming = commands p.line }

abbrev pub both_ends : Peer → Peer → Ends
both_ends p q = record { at_near = at_end p; at_far = at_end q }

abbrev pub seen : Replayed → Standing
seen r = record { at = both_ends r.near r.far; sent = r.sent; granted = r.granted }
