-- One call of the reader that takes a stream by fragments (change request No. 2), said by the steps of the whole reading
-- (`telnet`, `Whole.step_byte`). The reader gives its data out as it comes, so that between two bytes it is in a mode of
-- the whole reading with no run.
use Rattle.std.specs.Prelude.{ℕ, suc, Bool, true, false, List, [], ◌∷◌, ◌++◌, take, if◌then◌else◌, Option, None, Some}
use Rattle.refusal.specs.declared.Refusal.{Refusal}
use Rattle.telnet.specs.Event.{Event}
use Rattle.telnet.specs.Whole.{Mode, data', iac_seen, choosing, opening, payload, closing, failed, step_byte}

-- the run that a mode has so far
unfoldable pub run_of : Mode → List ℕ
run_of (data' r) = r
run_of (iac_seen r) = r
run_of (choosing v) = []
run_of opening = []
run_of (payload o p) = []
run_of (closing o p) = []
run_of (failed e) = []

-- the same mode, its run given out
unfoldable pub rested : Mode → Mode
rested (data' r) = data' []
rested (iac_seen r) = iac_seen []
rested (choosing v) = choosing v
rested opening = opening
rested (payload o p) = payload o p
rested (closing o p) = closing o p
rested (failed e) = failed e

unfoldable pub has_failed : Mode → Bool
has_failed (data' r) = false
has_failed (iac_seen r) = false
has_failed (choosing v) = false
has_failed opening = false
has_failed (payload o p) = false
has_failed (closing o p) = false
has_failed (failed e) = true

-- what a call gives: its data, the command or subnegotiation that it ended at (none, or one), how many bytes it took,
-- and the mode that it leaves
pub record Call : Type 0 where
  pub run : List ℕ
  pub event : List Event
  pub taken : ℕ
  pub mode : Mode

abbrev pub call : List ℕ → List Event → ℕ → Mode → Call
call d es n m = record { run = d; event = es; taken = n; mode = m }

-- a call that takes nothing
abbrev pub idle : Mode → Call
idle m = call [] [] 0 m

-- "A call ends at the first command or subnegotiation completed", or at a fault: by what a byte completes, and the mode
-- that it leads to
unfoldable pub ends : List Event → Mode → Bool
ends [] m = has_failed m
ends (e ∷ es) m = true

-- data and one more byte taken, in front of what the rest of a fragment gives
abbrev pub onward : List ℕ → Call → Call
onward d rest = call (d ++ rest.run) rest.event (suc rest.taken) rest.mode

-- a byte is taken that completes events and leads to a mode
unfoldable pub takes : List Event → Mode → Call → Call
takes es m rest = if ends es m then call [] es 1 m else onward (run_of m) rest

-- what a fragment gives from a mode on: one step a byte, with the data given out at each
unfoldable pub given : Mode → List ℕ → Call
given m [] = idle m
given m (b ∷ bs) = takes (step_byte m b).completes (step_byte m b).mode (given (rested (step_byte m b).mode) bs)

-- "after 1,024 bytes of it"
abbrev pub call_limit : ℕ
call_limit = 1024

-- one call with a fragment: it takes at most the first 1,024 bytes, and "later calls take nothing" after a fault
unfoldable pub called : Mode → List ℕ → Call
called m bs = if has_failed m then idle m else given m (take call_limit bs)

-- what a mode failed by, if it has failed
unfoldable pub refusal_of : Mode → Option Refusal
refusal_of (data' r) = None
refusal_of (iac_seen r) = None
refusal_of (choosing v) = None
refusal_of opening = None
refusal_of (payload o p) = None
refusal_of (closing o p) = None
refusal_of (failed e) = Some e
