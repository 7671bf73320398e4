-- The print ledger (specification, "Printer frames"). "Ledger" is the specification's own term, and so is "record" for
-- what it holds: the print record of RFC 4777, section 11.1. The ledger keeps that one is held, not its bytes.
use Rattle.std.specs.Prelude.{ℕ, true, false, not, List, [], ◌∷◌, if◌then◌else◌, Result, Ok, Err}
use Rattle.print_frame.specs.declared.Direction.TheVariants.{Outbound, Inbound}
use Rattle.print_frame.specs.declared.Operation.TheVariants.{Print, Clear}
use Rattle.print_frame.specs.declared.Frame.{Frame}
use Rattle.print_ledger.specs.declared.Ledger.{Ledger}
use Rattle.print_ledger.specs.declared.Receipt.{Receipt}
use Rattle.print_ledger.specs.declared.Receipt.TheVariants.{Held, Cleared, NothingToClear}
use Rattle.print_ledger.specs.declared.Taken.{Taken}
use Rattle.print_ledger.specs.declared.Completed.{Completed}
use Rattle.print_frame.specs.Frame.{frame_of}
use Rattle.refusal.specs.declared.Refusal.{Refusal}
use Rattle.refusal.specs.declared.Refusal.TheVariants.{NoRoom, RecordHeld, NoneHeld, InboundFrame}
use Rattle.octets.specs.Lent.{Outcome, outcome}
use Rattle.octets.specs.Promise.{write_front}

-- a ledger that holds nothing, and one that holds a record
abbrev pub idle : Ledger
idle = record { held = false }

abbrev pub holding : Ledger
holding = record { held = true }

-- nothing is held at first
abbrev pub fresh : Ledger
fresh = idle

-- a successor, and what became of the frame
abbrev pub after_frame : Ledger → Result Receipt Refusal → Taken
after_frame l r = record { ledger = l; receipt = r }

-- a print is refused by 50 when one is held, and is held when none is
abbrev pub printed : Ledger → Frame → Taken
printed l f = if l.held then after_frame l (Err RecordHeld) else after_frame holding (Ok Held)

-- a clear empties the ledger, idle or not, without a completion
abbrev pub cleared : Ledger → Frame → Taken
cleared l f = if l.held then after_frame idle (Ok Cleared) else after_frame idle (Ok NothingToClear)

-- a frame that was read, by its direction and its operation: 52 for an inbound one, before 50
abbrev pub taken : Ledger → Frame → Taken
taken l f = elim f.direction [
  | Inbound ↦ after_frame l (Err InboundFrame)
  | Outbound ↦ elim f.operation [ Print ↦ printed l f | Clear ↦ cleared l f ]
]

-- a frame as it was read
abbrev pub answered : Ledger → Result Frame Refusal → Taken
answered l (Err e) = after_frame l (Err e)
answered l (Ok f) = taken l f

-- the ledger given a frame: 40 to 45 before 52
unfoldable pub take_frame : Ledger → List ℕ → Taken
take_frame l f = answered l (frame_of f)

-- the print complete record (RFC 4777, figure 5)
abbrev pub print_complete : List ℕ
print_complete = 0x00 ∷ 0x0A ∷ 0x12 ∷ 0xA0 ∷ 0x01 ∷ 0x02 ∷ 0x04 ∷ 0x00 ∷ 0x00 ∷ 0x01 ∷ []

-- a successor, and whether the record was written
abbrev pub after_completion : Ledger → Result Unit Refusal → Completed
after_completion l c = record { ledger = l; completion = c }

-- the device's completion, into a lent output: 51, then 4; one that is refused for want of room still holds
unfoldable pub complete_into : Ledger → List ℕ → Outcome Completed
complete_into l out =
    if not l.held then outcome (after_completion l (Err NoneHeld)) out else
    write_front (λ _. after_completion idle (Ok tt)) (after_completion l (Err NoRoom)) print_complete out
