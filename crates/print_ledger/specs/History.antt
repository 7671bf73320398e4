-- The history of a ledger: any calls of it, one after the other, each on what the one before handed back. What is
-- counted is counted from the list of calls (specification, "Printer frames"): what a call asks is read from its bytes,
-- and whether it is refused from its answer. `Theorems.antt` says what holds of every history.
use Rattle.std.specs.Prelude.{ℕ, ◌+◌, Bool, true, false, not, ◌&&◌, List, [], ◌∷◌, eqb, if◌then◌else◌, Result, Ok, Err}
use Rattle.print_frame.specs.declared.Direction.{Direction}
use Rattle.print_frame.specs.declared.Direction.TheVariants.{Outbound, Inbound}
use Rattle.print_frame.specs.declared.Operation.{Operation}
use Rattle.print_frame.specs.declared.Operation.TheVariants.{Print, Clear}
use Rattle.print_frame.specs.declared.Frame.{Frame}
use Rattle.print_frame.specs.Frame.{operation_code, frame_of}
use Rattle.print_ledger.specs.declared.Ledger.{Ledger}
use Rattle.print_ledger.specs.Ledger.{fresh, take_frame, complete_into}
use Rattle.refusal.specs.declared.Refusal.{Refusal}
use Rattle.refusal.specs.RefusedBy.{is_refused, refusal_number}

-- a frame given to the ledger, or a completion with the output that is lent to it
pub data Call : Type 0 where
  frame : List ℕ → Call
  completion : List ℕ → Call

-- the ledger that a call hands back
unfoldable pub after : Ledger → Call → Ledger
after l (frame f) = (take_frame l f).ledger
after l (completion out) = (complete_into l out).answer.ledger

-- what a yes counts for
abbrev pub one : Bool → ℕ
one b = if b then 1 else 0

-- how many records a ledger holds
unfoldable pub held_records : Ledger → ℕ
held_records l = one l.held

-- whether a frame goes from the server to the client
unfoldable pub is_outbound : Direction → Bool
is_outbound Outbound = true
is_outbound Inbound = false

-- whether what was read is a good outbound frame with an operation
unfoldable pub asks : Operation → Result Frame Refusal → Bool
asks o (Ok f) = is_outbound f.direction && eqb (operation_code f.operation) (operation_code o)
asks o (Err e) = false

-- bytes that are a good outbound print
unfoldable pub is_print_frame : List ℕ → Bool
is_print_frame f = asks Print (frame_of f)

-- bytes that are a good outbound clear
unfoldable pub is_clear_frame : List ℕ → Bool
is_clear_frame f = asks Clear (frame_of f)

-- a call that is a good outbound print
unfoldable pub prints : Call → Bool
prints (frame f) = is_print_frame f
prints (completion out) = false

-- a call is refused where its answer is a number
unfoldable pub refused_call : Ledger → Call → Bool
refused_call l (frame f) = is_refused (refusal_number (take_frame l f).receipt)
refused_call l (completion out) = is_refused (refusal_number (complete_into l out).answer.completion)

-- a call is an accepted print where it is a print and is not refused
unfoldable pub accepts : Ledger → Call → Bool
accepts l k = prints k && not (refused_call l k)

-- it clears a record where it is a clear and one is held
unfoldable pub clears : Ledger → Call → Bool
clears l (frame f) = is_clear_frame f && eqb (held_records l) 1
clears l (completion out) = false

-- it completes a record where it is a completion and is not refused
unfoldable pub completes : Ledger → Call → Bool
completes l (frame f) = false
completes l (completion out) = not (refused_call l (completion out))

-- how many of some calls are of a kind, from a ledger on
unfoldable pub count_calls : (Ledger → Call → Bool) → Ledger → List Call → ℕ
count_calls kind l [] = 0
count_calls kind l (k ∷ ks) = one (kind l k) + count_calls kind (after l k) ks

-- the ledger after some calls
unfoldable pub run : Ledger → List Call → Ledger
run l [] = l
run l (k ∷ ks) = run (after l k) ks

-- the totals of a history from fresh
abbrev pub accepted_prints : List Call → ℕ
accepted_prints = count_calls accepts fresh

abbrev pub records_cleared : List Call → ℕ
records_cleared = count_calls clears fresh

abbrev pub completions : List Call → ℕ
completions = count_calls completes fresh
