-- The calls as the code answers them are the calls of the definition (`told`), and so take the stream
-- (`takes-the-stream`) and end in its mode (`ends-in-its-mode`). Assumes nothing.
use Rattle.std.specs.Prelude.{if◌then◌else◌, None, Some}
use mathlib.Core.Path.{◌≡◌, refl, sym, ap, ◌∙◌}
use mathlib.Core.Bool.{Bool, true, false}
use mathlib.Core.List.{List, [], ◌∷◌, ◌++◌, append_assoc}
use Prim.Native.Nat.{ℕ, ◌+◌, ◌≤◌}
use native.Mathlib.Omega.{arith}
use lib.Dec.{ltb}
use lib.ListN.{length, take, drop, length-take}
use lib.Seq.{take-take, take-add, take-append_seam, drop-append_seam}
use borrow.Author.Tests.{le-ltb}
use Rattle.telnet.specs.Event.{Event, run, command, negotiation, subnegotiation}
use Rattle.telnet.specs.Whole.{Mode, Reading, ended, reads, before, reading_from, reading, stops}
use Rattle.telnet_fragments.specs.declared.Stage.{Stage}
use Rattle.telnet_fragments.specs.declared.Stage.TheVariants.{Data, IacSeen, Choosing, Opening, Payload, Closing, Failed}
use Rattle.telnet_fragments.specs.declared.Reader.{Reader}
use Rattle.telnet_fragments.specs.Call.{Call, idle, rested, called, refusal_of}
use Rattle.telnet_fragments.specs.Promise.{happened, standing, fresh_reader, Seen, sees, seen, mode_of, kind_of, carried_of, delivered, feed_of}
use Rattle.telnet_fragments.specs.Joined.{joins, joined}
use Rattle.telnet_fragments.specs.Chain.{Made, Promised, found, left_in, gave, gave_all, took_all, last_reader, last_kept, Chain, none, next}
use Rattle.telnet_fragments.specs.Theorems.{TakesTheStream, mode_after, EndsInItsMode}
use Rattle.telnet_fragments.proofs.Cuts.{in_front, after_call, called-within, called-read, called-mode, mode-after-rested, mode-after-append, Sound, called-sound, run-joined, event-joined, nothing-kept}
use Rattle.telnet_fragments.proofs.Steps.{Reached, at-data, at-iac-seen, at-choosing, at-opening, at-payload, at-closing, at-failed, Single, reached-rested}
use Rattle.octets.specs.Lent.{Outcome, outcome, overwrite}
use Rattle.octets.proofs.Overwrite.{overwrite-front}
use Rattle.refusal.specs.declared.Refusal.TheVariants.{NoRoom}

event-back : (es : List Event) → Single es → happened (kind_of es) (carried_of es) ≡ es
unfolding happened kind_of carried_of
event-back [] h = refl
event-back (run r ∷ es) h = absurd h
event-back (command c ∷ es) h = rw h
event-back (negotiation v o ∷ es) h = rw h
event-back (subnegotiation o p ∷ es) h = rw h

-- whatever a reader is, its mode has no run, or failed by a fault
standing-reached : (s : Stage) (n : ℕ) (kept : List ℕ) → Reached (standing s n kept)
unfolding standing
standing-reached Data n kept = at-data
standing-reached IacSeen n kept = at-iac-seen
standing-reached (Choosing v) n kept = at-choosing
standing-reached Opening n kept = at-opening
standing-reached (Payload o) n kept = at-payload
standing-reached (Closing o) n kept = at-closing
standing-reached (Failed f) n kept = at-failed (f, refl)

pub always-reached : (r : Reader) (kept : List ℕ) → Reached (mode_of r kept)
always-reached r kept = standing-reached r.stage r.count kept

front-back : (x y room : List ℕ)
    → (take (length x) (overwrite room 0 (x ++ y)) ≡ x) × (take (length y) (drop (length x) (overwrite room 0 (x ++ y))) ≡ y)
front-back x y room =
    let e : overwrite room 0 (x ++ y) ≡ x ++ (y ++ drop (length (x ++ y)) room) = overwrite-front room (x ++ y) ∙ append_assoc x y (drop (length (x ++ y)) room) in (
      rw e (take-append_seam x (y ++ drop (length (x ++ y)) room)),
      rw (e, drop-append_seam x (y ++ drop (length (x ++ y)) room)) (take-append_seam y (drop (length (x ++ y)) room)),
    )

-- what a call did, as a call of the definition
pub record Told (c : Made) (is : Call) : Type 0 where
  pub taken_is : c.answer.taken ≡ is.taken
  pub mode-is : left_in c ≡ is.mode
  pub gave-is : gave c ≡ ended is.run ++ is.event
  pub refusal_is : c.answer.refusal ≡ refusal_of is.mode
  pub kind-is : c.answer.kind ≡ kind_of is.event
  pub length-is : c.answer.length ≡ length is.run
  pub payload-is : c.answer.payload ≡ length (carried_of is.event)

delivered-told : (c : Made) → outcome (seen c.answer c.keeps) c.left ≡ delivered (called (found c) c.fragment) c.room
    → Told c (called (found c) c.fragment)
unfolding gave delivered
delivered-told c q =
    let d = called (found c) c.fragment in
    let y = carried_of d.event in
    let s = called-sound c.fragment (always-reached c.reader c.kept) in
    let l : c.answer.length ≡ length d.run = ap (λ (o : Outcome Seen). o.answer.length) q in
    let k : c.answer.kind ≡ kind_of d.event = ap (λ (o : Outcome Seen). o.answer.kind) q in
    let p : c.answer.payload ≡ length y = ap (λ (o : Outcome Seen). o.answer.payload) q in
    let r : c.left ≡ overwrite c.room 0 (d.run ++ y) = ap (λ (o : Outcome Seen). o.lent) q in
    let b = front-back d.run y c.room in
    record {
      taken_is = ap (λ (o : Outcome Seen). o.answer.taken) q;
      mode-is = ap (λ (o : Outcome Seen). o.answer.mode) q;
      gave-is = rw (l, k, p, r, b.0, b.1, event-back d.event s.1);
      refusal_is = ap (λ (o : Outcome Seen). o.answer.refused) q;
      kind-is = k;
      length-is = l;
      payload-is = p;
    }

-- a call that has room enough
pub told : (c : Made) → Promised c → 2048 ≤ length c.room → Told c (called (found c) c.fragment)
unfolding feed_of
told c p h = delivered-told c (rw (le-ltb (length c.room) 2048 h) at p.0)

-- what a call did to the stream, refused or not
record Did (c : Made) : Type 0 where
  pub is : Call
  pub sound : Sound is
  pub within : is.taken ≤ length c.fragment
  pub reads_on : (rest : List ℕ) → reading_from (found c) (take is.taken c.fragment ++ rest) ≡ after_call is rest
  pub goes_to : is.mode ≡ rested (mode_after (found c) (take is.taken c.fragment))
  pub taken_is : c.answer.taken ≡ is.taken
  pub mode-is : left_in c ≡ is.mode
  pub gave-is : gave c ≡ ended is.run ++ is.event

refused_did : (c : Made) → outcome (seen c.answer c.keeps) c.left ≡ outcome (sees (found c) (Some NoRoom) 0 0 None 0) c.room → Did c
unfolding gave happened ended joins mode_after
refused_did c q =
    let h = always-reached c.reader c.kept in
    let l : c.answer.length ≡ 0 = ap (λ (o : Outcome Seen). o.answer.length) q in
    let k : c.answer.kind ≡ None = ap (λ (o : Outcome Seen). o.answer.kind) q in
    record {
      is = idle (found c);
      sound = (h, tt);
      within = omega arith;
      reads_on = λ rest. refl;
      goes_to = sym (reached-rested h);
      taken_is = ap (λ (o : Outcome Seen). o.answer.taken) q;
      mode-is = ap (λ (o : Outcome Seen). o.answer.mode) q;
      gave-is = rw (l, k);
    }

delivered-did : (c : Made) → outcome (seen c.answer c.keeps) c.left ≡ delivered (called (found c) c.fragment) c.room → Did c
delivered-did c q =
    let h = always-reached c.reader c.kept in
    let t = delivered-told c q in
    record {
      is = called (found c) c.fragment;
      sound = called-sound c.fragment h;
      within = called-within (found c) c.fragment;
      reads_on = called-read (found c) c.fragment;
      goes_to = called-mode c.fragment h;
      taken_is = t.taken_is;
      mode-is = t.mode-is;
      gave-is = t.gave-is;
    }

did : (c : Made) → Promised c → Did c
unfolding feed_of
did c p = go (ltb (length c.room) 2048) p.0
  where
    go : (t : Bool)
        → outcome (seen c.answer c.keeps) c.left
        ≡ (if t then outcome (sees (found c) (Some NoRoom) 0 0 None 0) c.room else delivered (called (found c) c.fragment) c.room)
        → Did c
    go true q = refused_did c q
    go false q = delivered-did c q

-- calls from a reader on: what they gave and how they end, and the mode that they leave
abbrev ReadBy : Reader → (kept bs : List ℕ) → List Made → Type 0
ReadBy r kept bs cs =
    (reads (joined (gave_all cs)) (stops (mode_of (last_reader r cs) (last_kept kept cs))).ending ≡ reading_from (mode_of r kept) (take (took_all cs) bs))
    × (mode_of (last_reader r cs) (last_kept kept cs) ≡ rested (mode_after (mode_of r kept) (take (took_all cs) bs)))

pub chain-read : (r : Reader) (kept bs : List ℕ) (cs : List Made) → Chain r kept bs cs → ReadBy r kept bs cs
unfolding gave_all took_all last_reader last_kept joined reading_from mode_after
chain-read r kept bs _ none = (nothing-kept (always-reached r kept), sym (reached-rested (always-reached r kept)))
chain-read r kept bs _ (next {c = c} {cs = cs} n e g f p more) =
    let same : found c ≡ mode_of r kept = ap (λ (x : Reader). mode_of x c.kept) e ∙ ap (mode_of r) g in
    let k : Did c = did c p in
    let d = k.is in
    let t = c.answer.taken in
    let rest = take (took_all cs) (drop t bs) in
    let ends = (stops (mode_of (last_reader c.answer.reader cs) (last_kept c.keeps cs))).ending in
    let w : t ≤ n = omega (arith, k.within, k.taken_is, ap length f, length-take n bs) in
    let cut : take d.taken c.fragment ≡ take t bs =
    ap (λ (i : ℕ). take i c.fragment) (sym k.taken_is) ∙ ap (take t) f ∙ take-take t n bs w in
    let whole : take (t + took_all cs) bs ≡ take d.taken c.fragment ++ rest =
    take-add t (took_all cs) bs ∙ ap (λ (l : List ℕ). l ++ rest) (sym cut) in
    let ih = chain-read c.answer.reader c.keeps (drop t bs) cs more in
    let ih' : reads (joined (gave_all cs)) ends ≡ reading_from d.mode rest = ih.0 ∙ ap (λ (x : Mode). reading_from x rest) k.mode-is in
    let parts : joined (gave c ++ gave_all cs) ≡ joins d.run (d.event ++ joined (gave_all cs)) =
    ap (λ (l : List Event). joined (l ++ gave_all cs)) k.gave-is ∙ ap joined (append_assoc (ended d.run) d.event (gave_all cs))
    ∙ run-joined d.run (d.event ++ gave_all cs) ∙ ap (joins d.run) (event-joined d.event (gave_all cs) k.sound.1) in
    let x = take d.taken c.fragment in (
      ap (λ (l : List Event). reads l ends) parts
          ∙ ap (λ (y : Reading). in_front d.run (before d.event y)) ih'
          ∙ sym (k.reads_on rest)
          ∙ ap (λ (m : Mode). reading_from m (x ++ rest)) same
          ∙ sym (ap (reading_from (mode_of r kept)) whole),
      ih.1
          ∙ ap (λ (m : Mode). rested (mode_after m rest)) (k.mode-is ∙ k.goes_to)
          ∙ mode-after-rested rest (mode_after (found c) x)
          ∙ ap rested (sym (mode-after-append (found c) x rest))
          ∙ ap (λ (m : Mode). rested (mode_after m (x ++ rest))) same
          ∙ sym (ap (λ (l : List ℕ). rested (mode_after (mode_of r kept) l)) whole),
    )

pub takes-the-stream : TakesTheStream
unfolding reading standing
takes-the-stream kept bs cs ch = (chain-read fresh_reader kept bs cs ch).0

pub ends-in-its-mode : EndsInItsMode
unfolding standing
ends-in-its-mode kept bs cs ch = (chain-read fresh_reader kept bs cs ch).1
