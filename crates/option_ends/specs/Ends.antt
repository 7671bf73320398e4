-- Two ends of one side of an option, each stepped by the option rules, with a line each way that keeps order and loses
-- nothing (specification, "Two ends, for demand 3"). Every count is made over the history of calls.
use Rattle.std.specs.Prelude.{ℕ, zero, suc, Bool, true, false, not, ◌&&◌, ◌||◌, List, [], ◌∷◌, ◌++◌, eqb, if◌then◌else◌, Option, None, Some}
use Rattle.option_rules.specs.declared.Command.{Command}
use Rattle.option_rules.specs.declared.Side.{Side}
use Rattle.option_rules.specs.declared.Side.TheVariants.{Off}
use Rattle.option_rules.specs.declared.Step.{Step}
use Rattle.option_rules.specs.Table.{Row, on_receive, on_request}
use Rattle.refusal.specs.Refusal.{not_carried, already_so, under_way, already_queued}
use Rattle.refusal.specs.RefusedBy.{number_or_0}

pub data End : Type 0 where
  near : End
  far : End

unfoldable pub other : End → End
other near = far
other far = near

-- a request for on or for off; a receipt of the oldest command on the way, accepting (true) or declining (false)
pub data Act : Type 0 where
  request : Command → Act
  receive : Bool → Act

infix 4 ◌does◌
pub data Call : Type 0 where
  ◌does◌ : End → Act → Call

-- the state that the last call at an end handed back, and the commands on the way to it, the oldest first
pub record AtEnd : Type 0 where
  pub state : Side
  pub coming : List Command

pub record Ends : Type 0 where
  pub at_near : AtEnd
  pub at_far : AtEnd

abbrev pub ends : Side → List Command → Side → List Command → Ends
ends s l s' l' = record { at_near = record { state = s; coming = l }; at_far = record { state = s'; coming = l' } }

unfoldable pub at : Ends → End → AtEnd
at t near = t.at_near
at t far = t.at_far

-- both ends fresh, with nothing under way
abbrev pub fresh : Ends
fresh = ends Off [] Off []

-- The result of a call: nothing, for a receipt with nothing on the way; a step by a request; or a step by a receipt,
-- accepting or not, with what is left on the way.
pub data CallResult : Type 0 where
  nothing : CallResult
  requested : Step → CallResult
  received : Bool → List Command → Step → CallResult

unfoldable pub taken : (Side → Row) → Side → Bool → List Command → CallResult
taken rules s accepting [] = nothing
taken rules s accepting (c ∷ rest) = received accepting rest (on_receive rules s accepting c)

unfoldable pub call_result : (Side → Row) → AtEnd → Act → CallResult
call_result rules e (request c) = requested (on_request rules e.state c)
call_result rules e (receive accepting) = taken rules e.state accepting e.coming

unfoldable pub sent_by : Option Command → List Command
sent_by None = []
sent_by (Some c) = c ∷ []

-- one end stepped: it has the successor, and what the step sends goes last on the line to the other
unfoldable pub stepped : Ends → End → List Command → Step → Ends
stepped t near rest s = ends s.side rest t.at_far.state (t.at_far.coming ++ sent_by s.sends)
stepped t far rest s = ends t.at_near.state (t.at_near.coming ++ sent_by s.sends) s.side rest

unfoldable pub changed : Ends → End → CallResult → Ends
changed t e nothing = t
changed t e (requested s) = stepped t e (at t e).coming s
changed t e (received accepting rest s) = stepped t e rest s

-- the ends after a call
unfoldable pub move : (Side → Row) → Ends → Call → Ends
move rules t (e does a) = changed t e (call_result rules (at t e) a)

-- the ends after a list of calls
unfoldable pub after : (Side → Row) → Ends → List Call → Ends
after rules t [] = t
after rules t (k ∷ ks) = after rules (move rules t k) ks

-- how many calls of a list have a result that passes a test
unfoldable pub count_where : (End → CallResult → Bool) → (Side → Row) → Ends → List Call → ℕ
count_where such rules t [] = zero
count_where such rules t ((e does a) ∷ ks) =
    let n = count_where such rules (move rules t (e does a)) ks in
    if such e (call_result rules (at t e) a) then suc n else n

-- the number that a call tells; 0 where it is no call
unfoldable pub number_told : CallResult → ℕ
number_told nothing = 0
number_told (requested s) = number_or_0 s.refusal
number_told (received accepting rest s) = number_or_0 s.refusal

-- The tests of what is counted.

unfoldable pub is_command : Option Command → Bool
is_command None = false
is_command (Some c) = true

-- a command is sent
unfoldable pub sends : End → CallResult → Bool
sends e nothing = false
sends e (requested s) = is_command s.sends
sends e (received accepting rest s) = is_command s.sends

unfoldable pub is_refusal : ℕ → Bool
is_refusal n = eqb n not_carried || eqb n already_so || eqb n under_way || eqb n already_queued

-- a request that is not refused
unfoldable pub granted : End → CallResult → Bool
granted e nothing = false
granted e (requested s) = not (is_refusal (number_or_0 s.refusal))
granted e (received accepting rest s) = false

-- a receipt of a command
unfoldable pub receipt : End → CallResult → Bool
receipt e nothing = false
receipt e (requested s) = false
receipt e (received accepting rest s) = true

unfoldable pub same : End → End → Bool
same near near = true
same near far = false
same far near = false
same far far = true

-- a receipt of a command at one end, accepting
unfoldable pub acceptance : End → End → CallResult → Bool
acceptance x e nothing = false
acceptance x e (requested s) = false
acceptance x e (received accepting rest s) = same x e && accepting

-- no call is a request
unfoldable pub receipts_only : List Call → Bool
receipts_only [] = true
receipts_only ((e does request c) ∷ ks) = false
receipts_only ((e does receive accepting) ∷ ks) = receipts_only ks
