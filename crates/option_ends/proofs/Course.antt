-- What follows one request for on, from two ends that are off with nothing under way: at first the command is on its
-- way, then its answer, then nothing is. Assumes nothing.
use Rattle.std.specs.Prelude.{if◌then◌else◌}
use mathlib.Core.Path.{◌≡◌, refl, ap, ◌∙◌}
use Prim.Native.Nat.{ℕ, suc, ◌≤◌}
use native.Mathlib.Omega.{arith}
use mathlib.Core.Bool.{Bool, true, false}
use mathlib.Core.List.{List, [], ◌∷◌, ◌++◌}
use lib.Dec.{T, ltb}
use borrow.Author.Tests.{lt-ltb}
use Rattle.option_rules.specs.declared.Command.{Command}
use Rattle.option_rules.specs.declared.Command.TheVariants.{On as on, Off as off}
use Rattle.option_rules.specs.declared.Side.{Side}
use Rattle.option_rules.specs.declared.Side.TheVariants.{Off, On, WantOn}
use Rattle.option_rules.specs.Table.{table}
use Rattle.option_ends.specs.Ends.{End, near, far, other, request, receive, Call, ◌does◌, Ends, ends, at, fresh}
use Rattle.option_ends.specs.Ends.{CallResult, taken, call_result, sent_by, stepped, changed, move, after, count_where, receipt, same, acceptance, receipts_only}
use Rattle.option_ends.specs.Agreement.{Quiet, Both, Settles}

-- the state in which both rest, by whether the other end accepted
abbrev outcome : Bool → Side
outcome b = if b then On else Off

-- Receipts alone, once the other end has answered: at most `left` of them are taken, and it accepts no more.
record Course (t : Ends) (asker : End) (left : ℕ) (b : Bool) (later : List Call) : Type 0 where
  never : count_where receipt table t later ≤ left
  exact : Quiet (after table t later) → count_where receipt table t later ≡ left
  comes : (more : List Call) × T (receipts_only more) × Quiet (after table t (later ++ more))
  settled : Quiet (after table t later) → Both (outcome b) (after table t later)
  none : count_where (acceptance (other asker)) table t later ≡ 0

-- the answer of the other end is on its way to the asker
answered : End → Bool → Ends
answered near true = ends WantOn (on ∷ []) On []
answered near false = ends WantOn (off ∷ []) Off []
answered far true = ends On [] WantOn (on ∷ [])
answered far false = ends Off [] WantOn (off ∷ [])

abbrev Same : (End → CallResult → Bool) → Ends → Call → List Call → Type 0
Same such t k ks = count_where such table t (k ∷ ks) ≡ count_where such table (move table t k) ks

module _ {t : Ends} {asker : End} {n : ℕ} {b : Bool} (k : Call) (ks : List Call) where
  -- a receipt with nothing on the way
  idle : Same receipt t k ks → Same (acceptance (other asker)) t k ks → Course (move table t k) asker n b ks → Course t asker n b (k ∷ ks)
  unfolding after
  idle r a c = record { never = rw r c.never; exact = rw r c.exact; comes = c.comes; settled = c.settled; none = rw a c.none }

  -- a receipt of a command at the asker's end
  took : count_where receipt table t (k ∷ ks) ≡ suc (count_where receipt table (move table t k) ks)
      → Same (acceptance (other asker)) t k ks → Course (move table t k) asker n b ks → Course t asker (suc n) b (k ∷ ks)
  unfolding after
  took r a c =
      record {
        never = rw r (omega (arith, c.never));
        exact = λ q. r ∙ ap suc (c.exact q);
        comes = c.comes;
        settled = c.settled;
        none = rw a c.none;
      }

-- nothing under way
over : (asker : End) (b : Bool) (ks : List Call) → T (receipts_only ks) → Course (ends (outcome b) [] (outcome b) []) asker 0 b ks
unfolding after count_where receipts_only at move changed call_result taken receipt acceptance
over asker b [] h =
    record {
      never = omega arith;
      exact = λ q. refl;
      comes = ([], tt, elim [ near ↦ refl | far ↦ refl ]);
      settled = λ q. elim [ near ↦ refl | far ↦ refl ];
      none = refl;
    }
over asker b ((e does request c) ∷ ks) h = absurd h
over asker b ((near does receive a) ∷ ks) h = idle (near does receive a) ks refl refl (over asker b ks h)
over asker b ((far does receive a) ∷ ks) h = idle (far does receive a) ks refl refl (over asker b ks h)

-- the answer under way, and no call yet: it is not quiet, and the asker's receipt makes it so
waits : (asker : End) (b : Bool) → (Quiet (answered asker b) → ⊥) → Quiet (move table (answered asker b) (asker does receive true))
    → Course (answered asker b) asker 1 b []
unfolding after count_where receipts_only
waits asker b loud quiet =
    record {
      never = omega arith;
      exact = λ q. absurd (loud q);
      comes = ((asker does receive true) ∷ [], tt, quiet);
      settled = λ q. absurd (loud q);
      none = refl;
    }

not-empty : {c : Command} {l : List Command} → c ∷ l ≡ [] → ⊥
not-empty e = let z : ◌≡◌ {A = ℕ} 0 1 = cc in omega arith

answer-under-way : (asker : End) (b : Bool) (ks : List Call) → T (receipts_only ks) → Course (answered asker b) asker 1 b ks
unfolding after count_where receipts_only at move changed stepped sent_by call_result taken receipt acceptance same other answered
answer-under-way near true [] h = waits near true (λ q. not-empty (q near)) (elim [ near ↦ refl | far ↦ refl ])
answer-under-way near false [] h = waits near false (λ q. not-empty (q near)) (elim [ near ↦ refl | far ↦ refl ])
answer-under-way far true [] h = waits far true (λ q. not-empty (q far)) (elim [ near ↦ refl | far ↦ refl ])
answer-under-way far false [] h = waits far false (λ q. not-empty (q far)) (elim [ near ↦ refl | far ↦ refl ])
answer-under-way asker b ((e does request c) ∷ ks) h = absurd h
answer-under-way near true ((near does receive a) ∷ ks) h = took (near does receive a) ks refl refl (over near true ks h)
answer-under-way near false ((near does receive a) ∷ ks) h = took (near does receive a) ks refl refl (over near false ks h)
answer-under-way far true ((far does receive a) ∷ ks) h = took (far does receive a) ks refl refl (over far true ks h)
answer-under-way far false ((far does receive a) ∷ ks) h = took (far does receive a) ks refl refl (over far false ks h)
answer-under-way near true ((far does receive a) ∷ ks) h = idle (far does receive a) ks refl refl (answer-under-way near true ks h)
answer-under-way near false ((far does receive a) ∷ ks) h = idle (far does receive a) ks refl refl (answer-under-way near false ks h)
answer-under-way far true ((near does receive a) ∷ ks) h = idle (near does receive a) ks refl refl (answer-under-way far true ks h)
answer-under-way far false ((near does receive a) ∷ ks) h = idle (near does receive a) ks refl refl (answer-under-way far false ks h)

-- the request's command is on its way to the other end
abbrev asked : End → Ends
asked asker = move table fresh (asker does request on)

module _ (asker : End) (b : Bool) (k : Call) (ks : List Call) (c : Course (move table (asked asker) k) asker 1 b ks) where
  -- the other end's receipt
  answers : count_where receipt table (asked asker) (k ∷ ks) ≡ suc (count_where receipt table (move table (asked asker) k) ks)
      → ltb 0 (count_where (acceptance (other asker)) table (asked asker) (k ∷ ks)) ≡ b → Settles table (asked asker) asker (k ∷ ks)
  unfolding after
  answers r a =
      record {
        never_three = rw r (omega (arith, c.never));
        exactly_two = λ q. r ∙ ap suc (c.exact q);
        comes = c.comes;
        settled = rw a c.settled;
      }

-- no call yet
begins : (asker : End) → (Quiet (asked asker) → ⊥)
    → Quiet (after table (asked asker) ((other asker does receive true) ∷ (asker does receive true) ∷ []))
    → Settles table (asked asker) asker []
unfolding after count_where receipts_only
begins asker loud quiet =
    record {
      never_three = omega arith;
      exactly_two = λ q. absurd (loud q);
      comes = ((other asker does receive true) ∷ (asker does receive true) ∷ [], tt, quiet);
      settled = λ q. absurd (loud q);
    }

positive : (n : ℕ) → ltb 0 (suc n) ≡ true
positive n = lt-ltb 0 (suc n) (omega arith)

pub settles : (asker : End) (ks : List Call) → T (receipts_only ks) → Settles table (asked asker) asker ks
unfolding after count_where receipts_only at move changed stepped sent_by call_result taken receipt acceptance same other answered
settles near [] h = begins near (λ q. not-empty (q far)) (elim [ near ↦ refl | far ↦ refl ])
settles far [] h = begins far (λ q. not-empty (q near)) (elim [ near ↦ refl | far ↦ refl ])
settles asker ((e does request c) ∷ ks) h = absurd h
settles near ((far does receive true) ∷ ks) h =
    answers near true (far does receive true) ks (answer-under-way near true ks h) refl
    (positive (count_where (acceptance far) table (answered near true) ks))
settles near ((far does receive false) ∷ ks) h =
    let c = answer-under-way near false ks h in
    answers near false (far does receive false) ks c refl (rw c.none)
settles far ((near does receive true) ∷ ks) h =
    answers far true (near does receive true) ks (answer-under-way far true ks h) refl
    (positive (count_where (acceptance near) table (answered far true) ks))
settles far ((near does receive false) ∷ ks) h =
    let c = answer-under-way far false ks h in
    answers far false (near does receive false) ks c refl (rw c.none)
settles near ((near does receive a) ∷ ks) h =
    let s = settles near ks h in
    record { never_three = s.never_three; exactly_two = s.exactly_two; comes = s.comes; settled = s.settled }
settles far ((far does receive a) ∷ ks) h =
    let s = settles far ks h in
    record { never_three = s.never_three; exactly_two = s.exactly_two; comes = s.comes; settled = s.settled }
