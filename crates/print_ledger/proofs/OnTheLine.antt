-- Print complete on the line, and as a frame. Assumes nothing.
use mathlib.Core.Path.{refl}
use Rattle.print_frame.specs.Frame.{goes, is_flow, direction_of, is_reserved, is_operation, operation_of, header_of, frame_of}
use Rattle.print_ledger.specs.Ledger.{print_complete}
use Rattle.print_ledger.specs.Theorems.{PrintCompleteReadsBack, PrintCompleteIsAFrame}
use Rattle.telnet.specs.Write.{doubled, written, written_all}
use Rattle.telnet.proofs.Between.{record-reads-back}

pub print-complete-reads-back : PrintCompleteReadsBack
unfolding doubled written written_all
print-complete-reads-back bs = record-reads-back print_complete bs

pub print-complete-is-a-frame : PrintCompleteIsAFrame
unfolding goes is_flow direction_of is_reserved is_operation operation_of header_of frame_of
print-complete-is-a-frame = refl
