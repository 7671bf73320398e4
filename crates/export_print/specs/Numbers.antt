-- The numbers of what a printer frame says and of what the ledger answers, and the ledger that numbers name.
use Rattle.std.specs.Prelude.{◌≡◌, ◌↔◌, ℕ, true, false, eqb, length, Result, Ok, Err}
use Rattle.print_frame.specs.declared.Direction.{Direction}
use Rattle.print_frame.specs.declared.Direction.TheVariants.{Outbound, Inbound}
use Rattle.print_frame.specs.declared.Operation.{Operation}
use Rattle.print_frame.specs.declared.Operation.TheVariants.{Print, Clear}
use Rattle.print_frame.specs.declared.Frame.{Frame}
use Rattle.refusal.specs.declared.Refusal.{Refusal}
use Rattle.refusal.specs.Refusal.{number}
use Rattle.print_ledger.specs.declared.Ledger.{Ledger}
use Rattle.print_ledger.specs.declared.Receipt.{Receipt}
use Rattle.print_ledger.specs.declared.Receipt.TheVariants.{Held, Cleared, NothingToClear}
use Rattle.print_ledger.specs.declared.Taken.{Taken}
use Rattle.print_ledger.specs.declared.Completed.{Completed}
use Rattle.print_ledger.specs.Ledger.{print_complete}
use Rattle.export_print.specs.declared.TvFrame.{TvFrame}
use Rattle.export_print.specs.declared.TvLedger.{TvLedger}
use Rattle.export_print.specs.declared.TvTaken.{TvTaken}
use Rattle.export_print.specs.declared.TvCompleted.{TvCompleted}
use Rattle.export.specs.Numbers.{mark}

-- the low byte of the data flow, and the operation code
abbrev pub direction_number : Direction → ℕ
direction_number Outbound = 1
direction_number Inbound = 2

abbrev pub operation_number : Operation → ℕ
operation_number Print = 1
operation_number Clear = 2

abbrev pub read_numbers : Frame → TvFrame
read_numbers f = record {
  refusal = 0;
  direction = direction_number f.direction;
  operation = operation_number f.operation;
  diagnostics_included = mark f.diagnostics_included;
  error = mark f.flags.error;
  intervention_required = mark f.flags.intervention_required;
  ready = mark f.flags.ready;
  first_of_chain = mark f.flags.first_of_chain;
  last_of_chain = mark f.flags.last_of_chain;
  diagnostics_at = f.diagnostics.place;
  diagnostics_length = f.diagnostics.length;
  data_at = f.print_data.place;
  data_length = f.print_data.length;
}

-- nothing but a refusal
abbrev pub no_frame : ℕ → TvFrame
no_frame r = record {
  refusal = r;
  direction = 0;
  operation = 0;
  diagnostics_included = 0;
  error = 0;
  intervention_required = 0;
  ready = 0;
  first_of_chain = 0;
  last_of_chain = 0;
  diagnostics_at = 0;
  diagnostics_length = 0;
  data_at = 0;
  data_length = 0;
}

abbrev pub frame_numbers : Result Frame Refusal → TvFrame
frame_numbers (Ok f) = read_numbers f
frame_numbers (Err e) = no_frame (number e)

abbrev pub ledger_numbers : Ledger → TvLedger
ledger_numbers l = record { held = mark l.held }

-- the ledger that numbers name; any other number than 1 is read as none held
unfoldable pub ledger_named : TvLedger → Ledger
ledger_named t = record { held = eqb t.held 1 }

abbrev pub took : TvLedger → (refusal receipt : ℕ) → TvTaken
took l r k = record { ledger = l; refusal = r; receipt = k }

abbrev pub receipt_number : Receipt → ℕ
receipt_number Held = 1
receipt_number Cleared = 2
receipt_number NothingToClear = 3

-- what became of a frame, with the ledger's numbers; a refusal hands back those that were given
abbrev pub receipt_numbers : (given ledger : TvLedger) → Result Receipt Refusal → TvTaken
receipt_numbers given l (Ok r) = took l 0 (receipt_number r)
receipt_numbers given l (Err e) = took given (number e) 0

abbrev pub taken_numbers : (given : TvLedger) → Taken → TvTaken
taken_numbers given t = receipt_numbers given (ledger_numbers t.ledger) t.receipt

abbrev pub completed : TvLedger → (refusal length : ℕ) → TvCompleted
completed l r n = record { ledger = l; refusal = r; length = n }

-- whether the record was written, with the ledger's numbers; a refusal hands back those that were given
abbrev pub completion_numbers : (given ledger : TvLedger) → Result (Unit {0}) Refusal → TvCompleted
completion_numbers given l (Ok _) = completed l 0 (length print_complete)
completion_numbers given l (Err e) = completed given (number e) 0

abbrev pub completed_numbers : (given : TvLedger) → Completed → TvCompleted
completed_numbers given c = completion_numbers given (ledger_numbers c.ledger) c.completion

-- Which ledger numbers name: 1 a holding one, every other an idle one; and the numbers of a ledger name it.
pub record LedgerNamed : Type 0 where
  pub back : (l : Ledger) → ledger_named (ledger_numbers l) ≡ l
  pub holding : (t : TvLedger) → ((ledger_named t).held ≡ true) ↔ (t.held ≡ 1)
  pub idle : (t : TvLedger) → (t.held ≡ 1 → ⊥) → (ledger_named t).held ≡ false
