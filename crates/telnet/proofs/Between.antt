-- A record is all data up to the next end-of-record, and reading goes on after it (`record-is-all-data`); written, it
-- is read back (`record-reads-back`): the theorems `Theorems.RecordIsAllData` and `Theorems.RecordReadsBack`. Assumes
-- nothing.
use Rattle.std.specs.Prelude.{if◌then◌else◌}
use mathlib.Core.Path.{◌≡◌, refl, sym, ap, ◌∙◌}
use mathlib.Core.Bool.{Bool, true, false, not}
use mathlib.Core.List.{List, [], ◌∷◌, ◌++◌, append-nil}
use Prim.Native.Nat.{ℕ, ◌+◌}
use native.Mathlib.Nat.{add_assoc}
use lib.Dec.{T}
use lib.ListN.{length, drop, length-append}
use lib.Seq.{drop-drop}
use mir.Facts.{and_yes}
use Rattle.telnet.specs.Event.{Event, command, iac, eor, lead}
use Rattle.telnet.specs.Write.{doubled, written, written_all}
use Rattle.telnet.specs.Read.{Front, no_event, found, refused, event_of}
use Rattle.telnet.specs.Whole.{Ending, Reading, reads, before, reading_from, reading, step_byte, ended, leads}
use Rattle.telnet.specs.Record.{is_end_of_record, data_of, Gathered, complete, with_event, gathered, record_of}
use Rattle.telnet.specs.Theorems.{all, read_on, all_data, RecordIsAllData, RecordReadsBack}
use Rattle.telnet.proofs.Stretch.{at-command}
use Rattle.telnet.proofs.Unroll.{run-read, unrolled}

same_reads : {es fs : List Event} {a b : Ending} → reads es a ≡ reads fs b → (es ≡ fs) × (a ≡ b)
same_reads e = (ap (λ (r : Reading). r.events) e, ap (λ (r : Reading). r.ending) e)

-- reading goes on after the first event
pub after_first : (bs : List ℕ) (e : Event) (es : List Event) (how : Ending) → reading bs ≡ reads (e ∷ es) how
    → reading (drop (length (written e)) bs) ≡ reads es how
unfolding read_on
after_first bs e es how h = go (event_of bs) (sym (unrolled bs) ∙ h)
  where
    go : (f : Front) → read_on bs f ≡ reads (e ∷ es) how → reading (drop (length (written e)) bs) ≡ reads es how
    go no_event g = let both = same_reads g in cc
    go (refused why) g = let both = same_reads g in cc
    go (found f) g =
        let both = same_reads g in
        let r = reading (drop (length (written f)) bs) in
        let same : f ≡ e = cc in
        let rest : reads r.events r.ending ≡ reads es how = cc in
        rw (← same) rest

-- and after the first events
pub after-all : (bs : List ℕ) (es fs : List Event) (how : Ending) → reading bs ≡ reads (es ++ fs) how
    → reading (drop (length (written_all es)) bs) ≡ reads fs how
unfolding written_all
after-all bs [] fs how h = h
after-all bs (e ∷ es) fs how h =
    rw (length-append, ← drop-drop (length (written_all es)) (length (written e)) bs)
    (after-all (drop (length (written e)) bs) es fs how (after_first bs e (es ++ fs) how h))

first-record : (es fs : List Event) (how : Ending) → T (all (λ e. not (is_end_of_record e)) es)
    → gathered (es ++ command eor ∷ fs) how ≡ complete (all_data es) (length (written_all es) + 2)
unfolding gathered with_event is_end_of_record all all_data written_all written
first-record [] fs how t = refl
first-record (e ∷ es) fs how t =
    go (is_end_of_record e) (and_yes (not (is_end_of_record e)) _ t).0 (first-record es fs how (and_yes (not (is_end_of_record e)) _ t).1)
  where
    rest : Gathered
    rest = gathered (es ++ command eor ∷ fs) how

    go : (u : Bool) → T (not u) → rest ≡ complete (all_data es) (length (written_all es) + 2)
        → (if u then complete [] (length (written e)) else with_event e rest)
        ≡ complete (data_of e ++ all_data es) (length (written e ++ written_all es) + 2)
    go true n r = absurd n
    go false n r = rw (r, length-append, add_assoc)

pub record-is-all-data : RecordIsAllData
unfolding record_of written
record-is-all-data bs es fs how t h = (
  rw h (first-record es fs how t),
  rw (← drop-drop 2 (length (written_all es)) bs)
      (after_first (drop (length (written_all es)) bs) (command eor) fs how (after-all bs es (command eor ∷ fs) how h)),
)

-- an end-of-record at the front
ends-here : (bs : List ℕ) → reading (iac ∷ eor ∷ bs) ≡ before (command eor ∷ []) (reading bs)
unfolding reading reading_from step_byte ended leads lead
ends-here bs = refl

ended-record : (d : List ℕ) (es : List Event) (how : Ending)
    → gathered (ended d ++ command eor ∷ es) how ≡ complete d (length (doubled d) + 2)
unfolding gathered with_event is_end_of_record data_of ended written doubled
ended-record [] es how = refl
ended-record (x ∷ d) es how = rw append-nil

pub record-reads-back : RecordReadsBack
unfolding record_of
record-reads-back d bs =
    rw (run-read d (iac ∷ eor ∷ bs) (at-command refl refl), ends-here bs) (ended-record d (reading bs).events (reading bs).ending)
