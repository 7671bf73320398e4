-- The laws of `specs/internal/Gather.antt`: a record is gathered one event after another. Assumes nothing.
use Rattle.std.specs.Prelude.{None, Some, Ok, Err}
use mathlib.Core.Path.{◌≡◌, refl, sym, ap, ap₂, ◌∙◌}
use mathlib.Core.Bool.{Bool, true, false}
use mathlib.Core.List.{List, [], ◌++◌}
use Prim.Native.Nat.{ℕ, ◌+◌, ◌≤◌, ◌<◌}
use native.Mathlib.Nat.{add_assoc, add-zero}
use native.Mathlib.Omega.{arith}
use lib.ListN.{length, drop, length-append, length-drop}
use lib.Seq.{drop-drop}
use borrow.Author.Tests.{lt-ltb, le-ltb}
use Rattle.octets.specs.Lent.{Outcome, outcome, overwrite}
use Rattle.octets.specs.Promise.{write_front}
use Rattle.octets.proofs.Overwrite.{overwrite-append}
use Rattle.refusal.specs.declared.Refusal.{Refusal}
use Rattle.refusal.specs.declared.Refusal.TheVariants.{NoRoom, PastTheEnd}
use Rattle.telnet.specs.declared.Kind.{Kind}
use Rattle.telnet.specs.declared.Kind.TheVariants.{Data}
use Rattle.telnet.specs.Event.{Event, run, command, negotiation, subnegotiation, kind, carried_bytes}
use Rattle.telnet.specs.Write.{written}
use Rattle.telnet.specs.Read.{data_run, Front, no_event, found, refused, event_of}
use Rattle.telnet.specs.Whole.{well, refusal}
use Rattle.telnet.specs.Record.{is_end_of_record, data_of, Gathered, complete, no_record, with_event, gathered, record_of}
use Rattle.telnet_reader.specs.declared.Found.{Found}
use Rattle.telnet_records.specs.declared.Record.{Record}
use Rattle.telnet_reader.specs.Promise.{event_found, answered, look_at}
use Rattle.telnet_records.specs.Promise.{Answer, record_found, answer_no_record, kept, record_at}
use Rattle.telnet_records.specs.Internal.Gather.{data_length, ends_record, sized, sized_at, record_data, data_at, CanCopy, Copied, CanPass, Passed}
use Rattle.telnet.specs.Theorems.{read_on}
use Rattle.telnet.proofs.Unroll.{unrolled}
use Rattle.telnet_data.specs.declared.Extent.{Extent}
use Rattle.telnet_data.specs.Promise.{count, span, copy_run}
use Rattle.telnet_data.proofs.Copies.{run-some, run-empty, run-whole}
use Rattle.telnet_reader.proofs.Places.{looked, look-run}
use Rattle.telnet.proofs.Stretch.{doubled-longer}
use Rattle.telnet_reader.proofs.Carried.{event-stands}

-- the record at the front, by what is there
record-unrolled : (bs : List ℕ) → record_of bs ≡ gathered (read_on bs (event_of bs)).events (read_on bs (event_of bs)).ending
unfolding record_of
record-unrolled bs = ap (λ r. gathered r.events r.ending) (unrolled bs)

pub record-end : (bs : List ℕ) → event_of bs ≡ no_event → record_of bs ≡ no_record well
unfolding gathered read_on
record-end bs e = record-unrolled bs ∙ rw e

pub record-refused : (bs : List ℕ) (why : Refusal) → event_of bs ≡ refused why → record_of bs ≡ no_record (refusal why)
unfolding gathered read_on
record-refused bs why e = record-unrolled bs ∙ rw e

pub record-ends : (bs : List ℕ) (e : Event) → event_of bs ≡ found e → is_end_of_record e ≡ true → record_of bs ≡ complete [] (length (written e))
unfolding gathered read_on
record-ends bs e f h = record-unrolled bs ∙ rw (f, h)

pub record-goes : (bs : List ℕ) (e : Event) → event_of bs ≡ found e → is_end_of_record e ≡ false
    → record_of bs ≡ with_event e (record_of (drop (length (written e)) bs))
unfolding gathered read_on record_of
record-goes bs e f h = record-unrolled bs ∙ rw (f, h)

-- an event's kind tells whether it ends a record, and what it adds
pub ends-by-kind : (e : Event) → ends_record (kind e) ≡ is_end_of_record e
unfolding is_end_of_record
ends-by-kind (run d) = refl
ends-by-kind (command c) = refl
ends-by-kind (negotiation v o) = refl
ends-by-kind (subnegotiation o p) = refl

pub length-by-kind : (e : Event) → data_length (kind e) (length (carried_bytes e)) ≡ length (data_of e)
unfolding data_of
length-by-kind (run d) = refl
length-by-kind (command c) = refl
length-by-kind (negotiation v o) = refl
length-by-kind (subnegotiation o p) = refl

-- an event adds no more data than it takes bytes
data-shorter : (e : Event) → length (data_of e) ≤ length (written e)
unfolding data_of written
data-shorter (run d) = doubled-longer d
data-shorter (command c) = omega arith
data-shorter (negotiation v o) = omega arith
data-shorter (subnegotiation o p) = omega arith

-- an event in front of a record: its data and its bytes are counted
pub sized-joined : (n i : ℕ) (e : Event) (g : Gathered) → sized n i (with_event e g) ≡ sized (n + length (data_of e)) (i + length (written e)) g
unfolding sized with_event
sized-joined n i e (complete d w) =
    ap₂ record_found (ap (λ k. n + k) (length-append (data_of e) d) ∙ sym (add_assoc n (length (data_of e)) (length d)))
    (sym (add_assoc i (length (written e)) w))
sized-joined n i e (no_record how) = refl

-- an event that `look` found, as it is at the place
pub record LookedAt (s : List ℕ) (i : ℕ) (k : Kind) (n x : ℕ) : Type 0 where
  pub event : Event
  pub is : event_of (drop i s) ≡ found event
  pub its-kind : k ≡ kind event
  pub its-length : n ≡ length (carried_bytes event)
  pub its-next : x ≡ i + length (written event)

-- where the record at the front has data, the first event's come first
joined-data : (e : Event) (g : Gathered) → 0 < length (record_data (with_event e g)) → record_data (with_event e g) ≡ data_of e ++ record_data g
unfolding record_data with_event
joined-data e (complete d w) h = refl
joined-data e (no_record how) h = absurd (omega arith)

left : (bs : List ℕ) (e : Event) → event_of bs ≡ found e → 0 < length (record_data (record_of bs))
    → record_data (record_of bs) ≡ data_of e ++ record_data (record_of (drop (length (written e)) bs))
unfolding record_data
left bs e f h = go (is_end_of_record e) refl
  where
    rest : Gathered
    rest = record_of (drop (length (written e)) bs)

    go : (t : Bool) → is_end_of_record e ≡ t → record_data (record_of bs) ≡ data_of e ++ record_data rest
    go true t =
        let none : record_of bs ≡ complete [] (length (written e)) = record-ends bs e f t in
        absurd (omega (arith, ap (λ g. length (record_data g)) none))
    go false t =
        let is : record_of bs ≡ with_event e rest = record-goes bs e f t in
        ap record_data is ∙ joined-data e rest (rw is at h)

module _ (s : List ℕ) (i : ℕ) (h : i ≤ length s) where
  pub event-end : look_at s i ≡ Ok None → event_of (drop i s) ≡ no_event
  unfolding answered
  event-end e = go (event_of (drop i s)) (sym (looked s i h) ∙ e)
    where
      go : (f : Front) → answered i f ≡ Ok None → f ≡ no_event
      go no_event g = refl
      go (found x) g = cc
      go (refused n) g = cc

  pub event-refused : (why : Refusal) → look_at s i ≡ Err why → event_of (drop i s) ≡ refused why
  unfolding answered
  event-refused why e = go (event_of (drop i s)) (sym (looked s i h) ∙ e)
    where
      go : (f : Front) → answered i f ≡ Err why → f ≡ refused why
      go no_event g = cc
      go (found x) g = cc
      go (refused m) g = cc

  pub event-found : (k : Kind) (n x : ℕ) → look_at s i ≡ event_found k n x → LookedAt s i k n x
  unfolding answered
  event-found k n x e = go (event_of (drop i s)) refl (sym (looked s i h) ∙ e)
    where
      go : (f : Front) → event_of (drop i s) ≡ f → answered i f ≡ event_found k n x → LookedAt s i k n x
      go no_event is g = absurd (let z : ◌≡◌ {A = ℕ} 0 1 = cc in omega arith)
      go (refused m) is g = absurd (let z : ◌≡◌ {A = ℕ} 0 1 = cc in omega arith)
      go (found e) is g =
          let f : Found = record { kind = kind e; length = length (carried_bytes e); next = i + length (written e) } in
          let same : record { kind = k; length = n; next = x } ≡ f = cc in
          record {
            event = e;
            is = is;
            its-kind = ap (λ (v : Found). v.kind) same;
            its-length = ap (λ (v : Found). v.length) same;
            its-next = ap (λ (v : Found). v.next) same;
          }

  -- it lies ahead and within the bytes
  pub found-further : (k : Kind) (l x : ℕ) → look_at s i ≡ event_found k l x → (i < x) × (x ≤ length s) × (i + data_length k l ≤ x)
  found-further k l x e =
      let v = event-found k l x e in
      let p = event-stands (drop i s) v.event v.is in
      let added : data_length k l ≡ length (data_of v.event) = ap₂ data_length v.its-kind v.its-length ∙ length-by-kind v.event in
      omega (arith, p, added, v.its-next, length-drop i s, data-shorter v.event)

  -- no data of a record are left where no event is found
  pub data-end : look_at s i ≡ Ok None → data_at s i ≡ []
  unfolding data_at record_data
  data-end e = rw (record-end (drop i s) (event-end e))

  pub data-refused : (why : Refusal) → look_at s i ≡ Err why → data_at s i ≡ []
  unfolding data_at record_data
  data-refused why e = rw (record-refused (drop i s) why (event-refused why e))

  -- where data are left, the event's own are at the place and the others after it
  pub data-goes : (k : Kind) (l x : ℕ) → look_at s i ≡ event_found k l x → 0 < length (data_at s i)
      → (data_length k l ≡ length (data_run (drop i s))) × (data_at s i ≡ data_run (drop i s) ++ data_at s x)
  unfolding data_at record_data
  data-goes k l x e some =
      let v = event-found k l x e in
      let p = event-stands (drop i s) v.event v.is in
      let after : drop (length (written v.event)) (drop i s) ≡ drop x s = drop-drop (length (written v.event)) i s ∙ ap (λ j. drop j s)
      (sym v.its-next) in (
        ap₂ data_length v.its-kind v.its-length ∙ length-by-kind v.event ∙ ap length p.data_is,
        left (drop i s) v.event v.is some ∙ ap₂ (λ d bs. d ++ record_data (record_of bs)) p.data_is after,
      )

  -- the record from the place on, after n bytes of data, by what `look` answers there
  module _ (n : ℕ) where
    pub sized-end : look_at s i ≡ Ok None → sized_at s n i ≡ Ok None
    unfolding sized_at sized answer_no_record
    sized-end e = rw (record-end (drop i s) (event-end e))

    pub sized-refused : (why : Refusal) → look_at s i ≡ Err why → sized_at s n i ≡ Err why
    unfolding sized_at sized answer_no_record
    sized-refused why e = rw (record-refused (drop i s) why (event-refused why e))

    pub sized-ends : (k : Kind) (l x : ℕ) → look_at s i ≡ event_found k l x → ends_record k ≡ true → sized_at s n i ≡ record_found n x
    unfolding sized_at sized
    sized-ends k l x e t =
        let v = event-found k l x e in
        let ends : is_end_of_record v.event ≡ true = sym (ends-by-kind v.event) ∙ ap ends_record (sym v.its-kind) ∙ t in
        rw (record-ends (drop i s) v.event v.is ends, ← v.its-next, add-zero)

    pub sized-goes : (k : Kind) (l x : ℕ) → look_at s i ≡ event_found k l x → ends_record k ≡ false → sized_at s n i ≡ sized_at s (n + data_length k l) x
    unfolding sized_at
    sized-goes k l x e t =
        let v = event-found k l x e in
        let goes : is_end_of_record v.event ≡ false = sym (ends-by-kind v.event) ∙ ap ends_record (sym v.its-kind) ∙ t in
        let added : data_length k l ≡ length (data_of v.event) = ap₂ data_length v.its-kind v.its-length ∙ length-by-kind v.event in
        let w = length (written v.event) in
        ap (sized n i) (record-goes (drop i s) v.event v.is goes ∙ ap (λ bs. with_event v.event (record_of bs)) (drop-drop w i s))
        ∙ sized-joined n i v.event (record_of (drop (i + w) s))
        ∙ ap₂ (λ m j. sized (n + m) j (record_of (drop j s))) (sym added) (sym v.its-next)

-- an event without data is passed, and the buffer is as it was
pub event-passed : {s : List ℕ} {i : ℕ} → CanPass s i → (k : Kind) (l x : ℕ) → look_at s i ≡ event_found k l x → Passed s i x
event-passed {s} {i} p k l x e =
    let f = found-further s i p.within k l x e in
    let d = data-goes s i p.within k l x e p.some in
    record { ahead = f.0; within = f.1; same = sym (d.1 ∙ ap (λ b. b ++ data_at s x) p.none) }

pub passed-copied : (s : List ℕ) (i : ℕ) (out : List ℕ) (to j : ℕ) → Passed s i j → Copied s i out to out (record { count = to; end = j })
passed-copied s i out to j p =
    record { ahead = p.ahead; within = p.within; whole = ap (λ d. to + length d) p.same; same = ap (overwrite out to) p.same }

-- what `copy_run` copies where there is room for the record's data
module _ (s : List ℕ) (i : ℕ) (out : List ℕ) (to : ℕ) (p : CanCopy s i out to) {r : Extent} {l : List ℕ} (e : outcome r l ≡ copy_run s i out to) where
  -- a run is the event's data
  pub run-copied : 0 < r.count → Copied s i out to l (record { count = to + r.count; end = r.end })
  unfolding count
  run-copied h =
      let here = data_run (drop i s) in
      let at-run = look-run s i p.within (run-some s i out to e h) in
      let all = (data-goes s i p.within Data (count (drop i s)) (i + span (drop i s)) at-run p.some).1 in
      let lengths = ap length all ∙ length-append here (data_at s (i + span (drop i s))) in
      let run = run-whole s i out to e (omega (arith, p.room, lengths)) in
      let looked-at = at-run ∙ sym (ap₂ (event_found Data) run.told.counted run.told.ended) in
      let f = found-further s i p.within Data r.count r.end looked-at in
      let d = data-goes s i p.within Data r.count r.end looked-at p.some in
      let after = data_at s r.end in
      let total = ap length d.1 ∙ length-append here after in
      record {
        ahead = f.0;
        within = f.1;
        whole = omega (arith, total, d.0);
        same =
            ap₂ (λ o n. overwrite o (to + n) after) run.lent d.0
            ∙ overwrite-append out to here after (omega (arith, p.room, total)) ∙ ap (overwrite out to) (sym d.1);
      }

  -- where there is none, the event adds nothing
  pub none-copied : r.count ≡ 0 → CanPass s i
  none-copied h = record { within = p.within; some = p.some; none = run-empty s i out to e h (omega (arith, p.some, p.room)) }

-- what `read_record` leaves, by what was found
abbrev pub keeping : List ℕ → ℕ → List ℕ → Answer → Outcome Answer
keeping s at out (Ok (Some r)) = write_front (λ length. record_found length r.next) (Err NoRoom) (data_at s at) out
keeping s at out (Ok None) = outcome (Ok None) out
keeping s at out (Err why) = outcome (Err why) out

module _ (s : List ℕ) (at : ℕ) where
  pub record-past : (out : List ℕ) → length s < at → record_at s at out ≡ outcome (Err PastTheEnd) out
  unfolding record_at
  record-past out h = rw (lt-ltb (length s) at h)

  pub record-kept : (out : List ℕ) → at ≤ length s → record_at s at out ≡ keeping s at out (sized_at s 0 at)
  unfolding record_at sized_at sized answer_no_record kept data_at record_data
  record-kept out h = rw (le-ltb (length s) at h) (go (record_of (drop at s)) refl)
    where
      go : (g : Gathered) → record_of (drop at s) ≡ g → kept at g out ≡ keeping s at out (sized 0 at g)
      go (complete d w) e = rw e
      go (no_record well) e = refl
      go (no_record (refusal why)) e = refl

  pub found-length : (n x : ℕ) → sized_at s 0 at ≡ record_found n x → n ≡ length (data_at s at)
  unfolding sized_at sized answer_no_record data_at record_data
  found-length n x e = go (record_of (drop at s)) e
    where
      go : (g : Gathered) → sized 0 at g ≡ record_found n x → n ≡ length (record_data g)
      go (complete d w) f = let r : Record = record { length = 0 + length d; next = at + w } in
          let same : r ≡ record { length = n; next = x } = cc in
          omega (arith, ap (λ (v : Record). v.length) same)
      go (no_record well) f = cc
      go (no_record (refusal why)) f = cc
