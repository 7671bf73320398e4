-- Each refusal of a frame is given exactly where its sentence holds and none before it does: each test of `frame_of`
-- says its sentence, and the walk through the tests finds the first that holds. Assumes nothing.
use Rattle.std.specs.Prelude.{if◌then◌else◌, Result, Ok, Err}
use mathlib.Core.Path.{◌≡◌, refl, sym, ap, subst, ◌∙◌}
use mathlib.Core.Bool.{Bool, true, false, not, ◌||◌}
use mathlib.Core.List.{List, [], ◌∷◌}
use mathlib.Core.Logic.{◌↔◌, ◌⊎◌, inl, inr, ⊎_elim}
use Prim.Native.Nat.{ℕ, ◌+◌, ◌-◌, ◌*◌, ◌%◌, ◌≤◌, ◌<◌}
use native.Mathlib.Omega.{arith}
use lib.Bits.{and_mask}
use lib.Dec.{T, eqb, ltb, T_not, not_T, eqb→eq, eqb_refl, ltb→lt, lt→ltb, lit<, lit≤}
use lib.ListN.{length, get_or}
use mir.Facts.{or_yes}
use denote.Floats.{passes}
use Rattle.octets.specs.Bytes.{Bytes}
use Rattle.octets.proofs.Choice.{choice}
use Rattle.octets.proofs.Order.{below-or-above}
use Rattle.print_frame.specs.declared.Frame.{Frame}
use Rattle.refusal.specs.declared.Refusal.{Refusal}
use Rattle.refusal.specs.Refusal.{number}
use Rattle.print_frame.specs.Frame as Definition
use Rattle.print_frame.specs.Frame.{number_at, structure_length, identifier, data_place}
use Rattle.print_frame.specs.Frame.{goes, is_flow, is_reserved, is_operation, header_of, frame_of}
use Rattle.print_frame.specs.Theorems.{Fault, frame_length, record_type, data_flow, header_length, reserved_flag}
use Rattle.print_frame.specs.Theorems.{operation, number_of, refusal_for, at, Sentence, NoneBefore, NoFault, Judged}
use Rattle.print_frame.specs.Theorems.{FrameIsItsSentence}
use Rattle.print_frame.proofs.Masks.{low-three}

-- what a test says
record Tests (t : Bool) (P : Type 0) : Type 0 where
  says : T t → P
  said : P → T t

in_words : {t : Bool} {P Q : Type 0} → Tests t P → P ↔ Q → Tests t Q
in_words a e = record { says = λ h. e.0 (a.says h); said = λ q. a.said (e.1 q) }

equal : (a b : ℕ) → Tests (eqb a b) (a ≡ b)
equal a b = record { says = eqb→eq a b; said = λ e. subst (λ k. T (eqb a k)) e (eqb_refl a) }

below : (a b : ℕ) → Tests (ltb a b) (a < b)
below a b = record { says = ltb→lt a b; said = lt→ltb a b }

either : {s t : Bool} {P Q : Type 0} → Tests s P → Tests t Q → Tests (s || t) (P ⊎ Q)
either {s} {t} a b = record {
  says = λ h. ⊎_elim (λ x. inl (a.says x)) (λ y. inr (b.says y)) (or_yes s t h);
  said = λ h. ⊎_elim (λ p. left s t (a.said p)) (λ q. right s t (b.said q)) h;
}
  where
    left : (s t : Bool) → T s → T (s || t)
    left true t h = tt
    left false t h = absurd h

    right : (s t : Bool) → T t → T (s || t)
    right true t h = tt
    right false t h = h

fails : {t : Bool} {P : Type 0} → Tests t P → Tests (not t) (P → ⊥)
fails {t} a = record { says = λ h p. T_not t h (a.said p); said = λ n. not_T t (λ h. n (a.says h)) }

one-fails : {s t : Bool} {P Q : Type 0} → Tests s P → Tests t Q → Tests (not s || not t) (P × Q → ⊥)
one-fails {s} {t} a b = record {
  says = λ h p. ⊎_elim (λ x. T_not s x (a.said p.0)) (λ y. T_not t y (b.said p.1)) (or_yes (not s) (not t) h);
  said = λ n. by_first s t (λ h k. n (a.says h, b.says k));
}
  where
    by_first : (s t : Bool) → (T s → T t → ⊥) → T (not s || not t)
    by_first true t n = not_T t (n tt)
    by_first false t n = tt

-- each of two with each of two
each-with-each : {A B C D : Type 0} → (((A × C) ⊎ (B × C)) ⊎ ((A × D) ⊎ (B × D))) ↔ ((A ⊎ B) × (C ⊎ D))
each-with-each = (
  ⊎_elim
      (⊎_elim (λ p. (inl p.0, inl p.1)) (λ p. (inr p.0, inl p.1)))
      (⊎_elim (λ p. (inl p.0, inr p.1)) (λ p. (inr p.0, inr p.1))),
  λ p.
      ⊎_elim
      (λ c. inl (⊎_elim (λ a. inl (a, c)) (λ b. inr (b, c)) p.0))
      (λ d. inr (⊎_elim (λ a. inl (a, d)) (λ b. inr (b, d)) p.0))
      p.1,
)

-- the numbers are 40 to 45, and each is that of one fault
fault_of : ℕ → Fault
fault_of n =
    get_or (frame_length ∷ record_type ∷ data_flow ∷ header_length ∷ reserved_flag ∷ operation ∷ []) (n - 40) operation

record Numbered (k : Fault) : Type 0 where
  back : fault_of (number_of k) ≡ k
  low : 40 ≤ number_of k
  high : number_of k < 46

numbered : (k : Fault) → Numbered k
unfolding fault_of
numbered frame_length = record { back = refl; low = lit≤ tt; high = lit< tt }
numbered record_type = record { back = refl; low = lit≤ tt; high = lit< tt }
numbered data_flow = record { back = refl; low = lit≤ tt; high = lit< tt }
numbered header_length = record { back = refl; low = lit≤ tt; high = lit< tt }
numbered reserved_flag = record { back = refl; low = lit≤ tt; high = lit< tt }
numbered operation = record { back = refl; low = lit≤ tt; high = lit< tt }

same-fault : (j k : Fault) → number_of j ≡ number_of k → j ≡ k
same-fault j k e = sym (numbered j).back ∙ ap fault_of e ∙ (numbered k).back

refusal-numbered : (k : Fault) → number (refusal_for k) ≡ number_of k
refusal-numbered frame_length = refl
refusal-numbered record_type = refl
refusal-numbered data_flow = refl
refusal-numbered header_length = refl
refusal-numbered reserved_flag = refl
refusal-numbered operation = refl

one-fault : (j k : Fault) → refusal_for j ≡ refusal_for k → j ≡ k
one-fault j k e = same-fault j k (sym (refusal-numbered j) ∙ ap number e ∙ refusal-numbered k)

-- the first sentence that holds
abbrev IsFirst : List ℕ → Fault → Type 0
IsFirst f k = Sentence f k × NoneBefore f k

-- what an answer says: no sentence holds, or the first that does
data Says (f : List ℕ) : Result Frame Refusal → Type 0 where
  none : (x : Frame) → NoFault f → Says f (Ok x)
  first : (k : Fault) → IsFirst f k → Says f (Err (refusal_for k))

read-refused : {A : Type 0} {x : Frame} {e : Refusal} → ◌≡◌ {A = Result Frame Refusal} (Ok x) (Err e) → A
read-refused e = let z : ◌≡◌ {A = ℕ} 0 1 = cc in absurd (omega arith)

module _ (f : List ℕ) where
  -- none with a number below one holds
  abbrev NoneBelow : ℕ → Type 0
  NoneBelow n = (j : Fault) → number_of j < n → Sentence f j → ⊥

  one_more : (k : Fault) → NoneBelow (number_of k) → (Sentence f k → ⊥) → NoneBelow (number_of k + 1)
  one_more k before no_more j less s =
      ⊎_elim (λ h. before j h s)
      (λ h. no_more (subst (Sentence f) (same-fault j k (omega arith)) s))
      (below-or-above (number_of j) (number_of k))

  -- one test of the walk
  step : (k : Fault) {t : Bool} {rest : Result Frame Refusal} → Tests t (Sentence f k)
      → (NoneBelow (number_of k + 1) → Says f rest) → NoneBelow (number_of k)
      → Says f (if t then Err (refusal_for k) else rest)
  step k {t} test further before =
      choice (Says f) t
      (λ e. first k (test.says (passes t e), before))
      (λ e. further (one_more k before (λ s. subst T e (test.said s))))

  none_before : (j k : Fault) → IsFirst f j → IsFirst f k → number_of k ≤ number_of j
  none_before j k p q = ⊎_elim (λ less. absurd (q.1 j less p.0)) (λ h. h) (below-or-above (number_of j) (number_of k))

  -- no two are the first
  one-first : (j k : Fault) → IsFirst f j → IsFirst f k → number_of j ≡ number_of k
  one-first j k p q = omega (arith, none_before j k p q, none_before k j q p)

  judged : {a : Result Frame Refusal} → frame_of f ≡ a → Says f a → Judged f
  judged e (none x n) = record {
    refused = λ k. (λ r. read-refused (sym e ∙ r), λ p. absurd (n k p.0));
    numbered = refusal-numbered;
    is_read = (λ r. n, λ m. record { frame = x; read = e });
  }
  judged e (first j p) = record {
    refused = λ k. (
      λ r. let same : refusal_for j ≡ refusal_for k = cc in subst (IsFirst f) (one-fault j k same) p,
      λ q. e ∙ ap (λ i. Err (refusal_for i)) (same-fault j k (one-first j k p q)),
    );
    numbered = refusal-numbered;
    is_read = (λ r. read-refused (sym r.read ∙ e), λ n. absurd (n j p.0));
  }

  -- the tests of the definition, each with its sentence
  module _ (bytes : Bytes f) where
    -- a number in two bytes
    two : (k x y : ℕ) → y < 256 → Tests (eqb (number_at f k) (x * 256 + y)) ((at f k ≡ x) × (at f (k + 1) ≡ y))
    two k x y small =
        let b = bytes (k + 1) in
        in_words (equal (number_at f k) (x * 256 + y)) (λ e. (omega arith, omega arith), λ p. omega arith)

    frame-length : Tests (ltb (length f) 10 || not (eqb (structure_length f) (length f))) (Sentence f frame_length)
    frame-length =
        either (below (length f) 10)
        (fails (in_words (equal (structure_length f) (length f)) (λ e. omega arith, λ e. omega arith)))

    record-type : Tests (not (eqb (identifier f) 0x12A0)) (Sentence f record_type)
    record-type = fails (two 2 0x12 0xA0 (lit< tt))

    data-flow : Tests (not (is_flow (Definition.data_flow f))) (Sentence f data_flow)
    unfolding goes is_flow
    data-flow =
        let outbound = either (two 4 0x01 0x01 (lit< tt)) (two 4 0x11 0x01 (lit< tt)) in
        let inbound = either (two 4 0x01 0x02 (lit< tt)) (two 4 0x11 0x02 (lit< tt)) in
        fails (in_words (either outbound inbound) each-with-each)

    header-length : Tests (ltb (at f 6) 4 || ltb (structure_length f) (data_place f)) (Sentence f header_length)
    header-length =
        either (below (at f 6) 4)
        (in_words (below (structure_length f) (data_place f)) (λ h. omega arith, λ h. omega arith))

    reserved-flag : Tests (is_reserved (at f 7) (at f 8)) (Sentence f reserved_flag)
    reserved-flag =
        rw (low-three (at f 7) (at f 8), and_mask (at f 7) 3)
        (one-fails (equal (at f 7 % 8) 0) (equal (at f 8) 0))

    operation-code : Tests (not (is_operation (at f 9))) (Sentence f operation)
    unfolding is_operation
    operation-code = fails (either (equal (at f 9) 0x01) (equal (at f 9) 0x02))

    first-of-all : Says f (frame_of f)
    unfolding frame_of header_of
    first-of-all =
        step frame_length frame-length
        (step record_type record-type
        (step data_flow data-flow
        (step header_length header-length
        (step reserved_flag reserved-flag
        (step operation operation-code
        (λ before. none _ (λ j. before j (numbered j).high)))))))
        (λ j less. absurd (omega (arith, (numbered j).low)))

pub frame-is-its-sentence : FrameIsItsSentence
frame-is-its-sentence f bytes = judged f refl (first-of-all f bytes)
