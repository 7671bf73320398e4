-- Which reader numbers name (`Numbers.ReadersNamed`), and that a call hands back what it was given where it is idle
-- (`refused-back`, `fed-back`). Assumes nothing.
use mathlib.Core.Path.{◌≡◌, refl, sym, ap, ◌∙◌}
use mathlib.Core.Bool.{Bool, true, false, ◌||◌}
use mathlib.Core.List.{List}
use Prim.Native.Nat.{ℕ, ◌<◌}
use native.Mathlib.Omega.{arith}
use lib.Dec.{eqb, ltb}
use lib.ListN.{length}
use borrow.Author.Tests.{eqb-true, lt-ltb, ne_eqb, ltb-true}
use Rattle.std.specs.Prelude.{Option, None, Some}
use Rattle.refusal.specs.declared.Refusal.TheVariants.{NoRoom}
use Rattle.telnet.specs.declared.Verb.{Verb}
use Rattle.telnet.specs.declared.Verb.TheVariants.{Will, Wont, Do, Dont}
use Rattle.telnet_fragments.specs.declared.Fault.{Fault}
use Rattle.telnet_fragments.specs.declared.Fault.TheVariants.{Undoubled, TooLong, BadCommand}
use Rattle.telnet_fragments.specs.declared.Stage.{Stage}
use Rattle.telnet_fragments.specs.declared.Stage.TheVariants.{Data, IacSeen, Choosing, Opening, Payload, Closing, Failed}
use Rattle.telnet_fragments.specs.declared.Reader.{Reader}
use Rattle.telnet_fragments.specs.declared.Taken.{Taken}
use Rattle.telnet_fragments.specs.Call.{has_failed}
use Rattle.telnet_fragments.specs.Promise.{fault_number, standing, mode_of, is_idle, HandsBack, Fed}
use Rattle.telnet_fragments.specs.Chain.{Made}
use Rattle.telnet_fragments.proofs.Ending.{numbers-given}
use Rattle.export.specs.Numbers.{verb_named}
use Rattle.export.proofs.KindNames.{no-verb}
use Rattle.export_reader.specs.declared.TvReader.{TvReader}
use Rattle.export_reader.specs.Numbers.{stage_numbers, reader_numbers, choosing_named, fault_named, stage_named, reader_named, handed_back, ReadersNamed}
use Rattle.octets.proofs.Choice.{choice, never}

stage-back : (s : Stage) (n : ℕ) → stage_named (stage_numbers s n).stage (stage_numbers s n).code ≡ s
unfolding stage_named fault_named verb_named
stage-back Data n = refl
stage-back IacSeen n = refl
stage-back (Choosing Will) n = refl
stage-back (Choosing Wont) n = refl
stage-back (Choosing Do) n = refl
stage-back (Choosing Dont) n = refl
stage-back Opening n = refl
stage-back (Payload o) n = refl
stage-back (Closing o) n = refl
stage-back (Failed Undoubled) n = refl
stage-back (Failed TooLong) n = refl
stage-back (Failed BadCommand) n = refl

count-back : (s : Stage) (n : ℕ) → (stage_numbers s n).count ≡ n
count-back Data n = refl
count-back IacSeen n = refl
count-back (Choosing v) n = refl
count-back Opening n = refl
count-back (Payload o) n = refl
count-back (Closing o) n = refl
count-back (Failed f) n = refl

back : (r : Reader) → reader_named (reader_numbers r) ≡ r
back r = rw (stage-back r.stage r.count, count-back r.stage r.count)

-- the numbers of a fault, as a test of a stage
abbrev Faulty : (s c : ℕ) → Fault → Stage → Type 0
Faulty s c f t = t ≡ Failed f → (s ≡ 6) × (c ≡ fault_number f)

is-fault : (s c : ℕ) (f g : Fault) → s ≡ 6 → c ≡ fault_number g → Faulty s c f (Failed g)
is-fault s c f g e k is = let same : g ≡ f = cc in (e, k ∙ ap fault_number same)

verb-no-fault : (s c : ℕ) (f : Fault) (v : Option Verb) → Faulty s c f (choosing_named v)
verb-no-fault s c f None is = cc
verb-no-fault s c f (Some v) is = cc

named-fault : (s c : ℕ) (f : Fault) → Faulty s c f (stage_named s c)
unfolding stage_named fault_named
named-fault s c f =
    choice (Faulty s c f) (eqb s 1) (λ _ is. cc)
    (λ _. choice (Faulty s c f) (eqb s 2) (λ _. verb-no-fault s c f (verb_named c))
    (λ _. choice (Faulty s c f) (eqb s 3) (λ _ is. cc)
    (λ _. choice (Faulty s c f) (eqb s 4) (λ _ is. cc)
    (λ _. choice (Faulty s c f) (eqb s 5) (λ _ is. cc)
    (λ _. choice (Faulty s c f) (eqb s 6)
    (λ e.
    let six = eqb-true s 6 e in
    choice (Faulty s c f) (eqb c 2) (λ k. is-fault s c f Undoubled six (eqb-true c 2 k))
    (λ _. choice (Faulty s c f) (eqb c 3) (λ k. is-fault s c f TooLong six (eqb-true c 3 k))
    (λ _. choice (Faulty s c f) (eqb c 6) (λ k. is-fault s c f BadCommand six (eqb-true c 6 k)) (λ _ is. cc))))
    (λ _ is. cc))))))

fault-named : (s c : ℕ) (f : Fault) → (s ≡ 6) × (c ≡ fault_number f) → stage_named s c ≡ Failed f
unfolding stage_named fault_named
fault-named s c Undoubled h = rw (h.0, h.1)
fault-named s c TooLong h = rw (h.0, h.1)
fault-named s c BadCommand h = rw (h.0, h.1)

no-stage : (s c : ℕ) → 6 < s → stage_named s c ≡ Data
unfolding stage_named
no-stage s c h =
    let no : (k : ℕ) → k < 7 → eqb s k ≡ false = λ k l. ne_eqb s k (λ e. omega (arith, e, h, l)) in
    rw (no 1 (omega arith), no 2 (omega arith), no 3 (omega arith), no 4 (omega arith), no 5 (omega arith), no 6 (omega arith))

no-fault-named : (c : ℕ) → ((f : Fault) → c ≡ fault_number f → ⊥) → stage_named 6 c ≡ Data
unfolding stage_named fault_named
no-fault-named c h = rw (ne_eqb c 2 (h Undoubled), ne_eqb c 3 (h TooLong), ne_eqb c 6 (h BadCommand))

pub named_readers : ReadersNamed
unfolding stage_named
named_readers = record {
  back = back;
  plain = λ c. (refl, refl, refl);
  faults = λ s c f. (named-fault s c f, fault-named s c f);
  no_stage = no-stage;
  no_verb = λ c h. rw ((no-verb c).1 h);
  no_fault = no-fault-named;
}

-- the numbers of a faulted reader are those that named it
faulted-back : (given : TvReader) (kept : List ℕ) → has_failed (mode_of (reader_named given) kept) ≡ true → reader_numbers (reader_named given) ≡ given
unfolding has_failed standing
faulted-back given kept = go (stage_named given.stage given.code) refl
  where
    go : (t : Stage) → stage_named given.stage given.code ≡ t → has_failed (standing t given.count kept) ≡ true → stage_numbers t given.count ≡ given
    go Data e h = never h
    go IacSeen e h = never h
    go (Choosing v) e h = never h
    go Opening e h = never h
    go (Payload o) e h = never h
    go (Closing o) e h = never h
    go (Failed f) e h = let k = named-fault given.stage given.code f e in rw (sym k.1, sym k.0)

-- a call with the reader that numbers name
module _ (given : TvReader) (kept bs room : List ℕ) (t : Taken) (keeps left : List ℕ) (p : Fed (reader_named given) kept bs room t keeps left) where
  made : Made
  made = record { reader = reader_named given; kept = kept; fragment = bs; room = room; answer = t; keeps = keeps; left = left }

  pub refused-back : t.refusal ≡ Some NoRoom → given ≡ handed_back (is_idle (mode_of (reader_named given) kept) room) given t.reader
  unfolding is_idle made
  refused-back e = rw (lt-ltb (length room) 2048 ((numbers-given made p).short.0 e))

  pub fed-back : (t.refusal ≡ Some NoRoom → ⊥) → reader_numbers t.reader ≡ handed_back (is_idle (mode_of (reader_named given) kept) room) given t.reader
  unfolding is_idle made
  fed-back other = go (ltb (length room) 2048) (has_failed (mode_of (reader_named given) kept)) refl refl p.1
    where
      go : (a b : Bool) → ltb (length room) 2048 ≡ a → has_failed (mode_of (reader_named given) kept) ≡ b
          → HandsBack (a || b) (reader_named given) kept t.reader keeps → reader_numbers t.reader ≡ handed_back (a || b) given t.reader
      go true b e f h = absurd (other ((numbers-given made p).short.1 (ltb-true (length room) 2048 e)))
      go false true e f h = ap reader_numbers h.0 ∙ faulted-back given kept f
      go false false e f h = refl
