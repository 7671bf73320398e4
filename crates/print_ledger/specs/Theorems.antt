-- What holds of every history of a ledger from fresh, and of the print complete record: on the line, and as a frame.
-- The proofs are in `proofs/HeardBack.antt` and `proofs/OnTheLine.antt`.
use Rattle.std.specs.Prelude.{◌≡◌, false, not, ◌↔◌, List, [], ◌∷◌, ◌++◌, ℕ, ◌+◌, ◌≤◌, ◌<◌, T, length, if◌then◌else◌, Ok}
use Rattle.print_frame.specs.declared.Direction.TheVariants.{Inbound}
use Rattle.print_frame.specs.declared.Operation.TheVariants.{Print}
use Rattle.print_frame.specs.Frame.{flags_of, frame_of}
use Rattle.print_ledger.specs.Ledger.{fresh, print_complete, complete_into}
use Rattle.print_ledger.specs.History.{Call, frame, completion, after, held_records, is_print_frame, is_clear_frame, prints, refused_call}
use Rattle.print_ledger.specs.History.{accepts, completes, count_calls, run, accepted_prints, records_cleared, completions}
use Rattle.telnet.specs.Event.{run as data_run, command, eor}
use Rattle.telnet.specs.Write.{written_all}
use Rattle.telnet.specs.Record.{record_of, complete}
use Rattle.octets.specs.Lent.{overwrite}

-- What is heard back after some calls, refused ones among them, and what the next call does. It is said of every list
-- of calls, and so at every point of a history.
pub record HeardBack (ks : List Call) : Type 0 where
  -- "accepted prints equal completions plus records cleared plus the one held, each counted from the history of calls"
  pub total : accepted_prints ks ≡ completions ks + records_cleared ks + held_records (run fresh ks)
  -- at most one completion for each accepted print
  pub at_most_one : completions ks ≤ accepted_prints ks
  -- a completion is written exactly when a record is held and there is room for it
  pub exactly : (out : List ℕ)
      → T (completes (run fresh ks) (completion out)) ↔ ((held_records (run fresh ks) ≡ 1) × (length print_complete ≤ length out))
  -- then the ten bytes are written and nothing else, otherwise nothing
  pub bytes : (out : List ℕ)
      → (complete_into (run fresh ks) out).lent ≡ (if completes (run fresh ks) (completion out) then overwrite out 0 print_complete else out)
  -- no completion without an accepted print before it, one that is neither completed nor cleared yet
  pub not-before : (out : List ℕ)
      → T (completes (run fresh ks) (completion out)) → completions ks + records_cleared ks < accepted_prints ks
  -- and once for each: after a completion none is written until another print is accepted
  pub once : (out : List ℕ) (js : List Call)
      → T (completes (run fresh ks) (completion out))
      → count_calls accepts (after (run fresh ks) (completion out)) js ≡ 0 → count_calls completes (after (run fresh ks) (completion out)) js ≡ 0
  -- "a print frame when idle is held": an outbound print is accepted where nothing is held, and then one is held
  pub print-held : (f : List ℕ)
      → T (is_print_frame f) → held_records (run fresh ks) ≡ 0 → T (accepts (run fresh ks) (frame f)) × (held_records (after (run fresh ks) (frame f)) ≡ 1)
  -- "a clear empties it, idle or not": an outbound clear is not refused, and nothing is held after it, whatever was
  -- held
  pub clear-empties : (f : List ℕ)
      → T (is_clear_frame f) → T (not (refused_call (run fresh ks) (frame f))) × (held_records (after (run fresh ks) (frame f)) ≡ 0)
  -- where nothing is held, no call but an outbound print makes the ledger hold a record
  pub only-prints : (k : Call) → T (not (prints k)) → held_records (run fresh ks) ≡ 0 → held_records (after (run fresh ks) k) ≡ 0
  -- a call that is refused hands the ledger back as it was
  pub kept : (k : Call) → T (refused_call (run fresh ks) k) → after (run fresh ks) k ≡ run fresh ks

abbrev pub PrintsAreHeardBack : Type 0
PrintsAreHeardBack = (ks : List Call) → HeardBack ks

-- Print complete goes through framing undamaged: the ten bytes written as a run and an end-of-record are read back as
-- one record equal to them, 12 bytes long on the line. `telnet` says the like of any record,
-- `Theorems.RecordReadsBack`.
abbrev pub PrintCompleteReadsBack : Type 0
PrintCompleteReadsBack = (bs : List ℕ) → record_of (written_all (data_run print_complete ∷ command eor ∷ []) ++ bs) ≡ complete print_complete 12

-- Print complete is a good frame from the client (RFC 4777, figures 3 and 5): '01'X "Print/Print complete", with no
-- flag set and neither diagnostic bytes nor data.
abbrev pub PrintCompleteIsAFrame : Type 0
PrintCompleteIsAFrame = frame_of print_complete ≡ Ok (record {
  direction = Inbound;
  diagnostics_included = false;
  flags = flags_of 0x00;
  operation = Print;
  diagnostics = record { place = 10; length = 0 };
  print_data = record { place = 10; length = 0 };
})
