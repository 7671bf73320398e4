-- What is at a place, by the bytes there: the laws that each way out of the reader cites. Assumes nothing.
use mathlib.Core.Path.{◌≡◌, refl, sym, ap, ◌∙◌}
use mathlib.Core.List.{List, [], ◌∷◌}
use Prim.Native.Nat.{ℕ, ◌+◌, ◌≤◌, ◌<◌}
use native.Mathlib.Nat.{add_assoc}
use native.Mathlib.Omega.{arith}
use lib.ListN.{length, drop, get_or, length-append, length-drop, drop_of_length-le}
use lib.Seq.{drop-drop}
use lib.Dec.{eqb}
use borrow.Author.Tests.{eq-eqb, ne_eqb, lt-ltb, le-ltb}
use Rattle.std.specs.Prelude.{None, Ok, Err}
use Rattle.refusal.specs.declared.Refusal.TheVariants.{CutShort, PayloadTooLong, Undoubled, PastTheEnd}
use Rattle.telnet.specs.declared.Verb.{Verb}
use Rattle.telnet.specs.declared.Lead.{Lead}
use Rattle.telnet.specs.declared.Kind.TheVariants.{Data, Negotiation, Subnegotiation}
use Rattle.telnet.specs.Event.{subnegotiation, lead, iac, se, payload_limit}
use Rattle.telnet.specs.Write.{doubled, written}
use Rattle.telnet.specs.Read.{data_run, after_verb, after_sb, closed, after_iac, after_lead, event_of, run_or, Front}
use Rattle.telnet_data.specs.Promise.{count, span}
use Rattle.telnet_reader.specs.Promise.{event_found, answered, look_at}
use Rattle.octets.proofs.Front.{empty, at_front, pair-front}

-- after a stretch at place i
pub after : (s : List ℕ) (i : ℕ) → drop (length (doubled (data_run (drop i s)))) (drop i s) ≡ drop (i + span (drop i s)) s
unfolding span
after s i = drop-drop (length (doubled (data_run (drop i s)))) i s

module _ (s : List ℕ) (at : ℕ) where
  pub verb-cut : (v : Verb) → length s ≤ at + 2 → answered at (after_verb v (drop (at + 2) s)) ≡ Err CutShort
  unfolding answered after_verb
  verb-cut v h = rw (drop_of_length-le s {i = at + 2} h)

  pub verb-found : (v : Verb) → at + 2 < length s
      → answered at (after_verb v (drop (at + 2) s)) ≡ event_found (Negotiation v (get_or s (at + 2) 0)) 0 (at + 3)
  unfolding answered after_verb written
  verb-found v h = rw (at_front s (at + 2) h)

  pub sb-cut : length s ≤ at + 2 → answered at (after_sb (drop (at + 2) s)) ≡ Err CutShort
  unfolding answered after_sb
  sb-cut h = rw (drop_of_length-le s {i = at + 2} h)

  -- the place after the payload
  abbrev tail : ℕ
  tail = at + 3 + span (drop (at + 3) s)

  -- an option byte is there
  option-front : at + 2 < length s → drop (at + 2) s ≡ get_or s (at + 2) 0 ∷ drop (at + 3) s
  option-front h = at_front s (at + 2) h ∙ ap (λ k. get_or s (at + 2) 0 ∷ drop k s) (add_assoc at 2 1)

  -- with a payload within the limit, what closes it decides
  opened-closed : at + 2 < length s → count (drop (at + 3) s) ≤ payload_limit
      → after_sb (drop (at + 2) s) ≡ closed (get_or s (at + 2) 0) (data_run (drop (at + 3) s)) (drop tail s)
  unfolding after_sb count
  opened-closed h k = rw (option-front h, le-ltb payload_limit (length (data_run (drop (at + 3) s))) k, after s (at + 3))

  pub sb-long : at + 2 < length s → payload_limit < count (drop (at + 3) s) → answered at (after_sb (drop (at + 2) s)) ≡ Err PayloadTooLong
  unfolding answered after_sb count
  sb-long h k = rw (option-front h, lt-ltb payload_limit (length (data_run (drop (at + 3) s))) k)

  module _ (h : at + 2 < length s) (k : count (drop (at + 3) s) ≤ payload_limit) where
    pub sb-short : length s < tail + 2 → answered at (after_sb (drop (at + 2) s)) ≡ Err CutShort
    unfolding answered closed
    sb-short g = ap (answered at) (opened-closed h k) ∙ short _ _ (drop tail s) (omega (arith, length-drop tail s))
      where
        short : (o : ℕ) (p rest : List ℕ) → length rest < 2 → answered at (closed o p rest) ≡ Err CutShort
        short o p [] l = refl
        short o p (x ∷ []) l = refl
        short o p (x ∷ y ∷ rest) l = absurd (omega arith)

    pub sb-undoubled : tail + 1 < length s → (get_or s (tail + 1) 0 ≡ se → ⊥) → answered at (after_sb (drop (at + 2) s)) ≡ Err Undoubled
    unfolding answered closed
    sb-undoubled g n = rw (opened-closed h k, pair-front s tail g, ne_eqb (get_or s (tail + 1) 0) se n)

    pub sb-found : tail + 1 < length s → get_or s (tail + 1) 0 ≡ se
        → answered at (after_sb (drop (at + 2) s)) ≡ event_found (Subnegotiation (get_or s (at + 2) 0)) (count (drop (at + 3) s)) (tail + 2)
    unfolding answered closed count span written
    sb-found g e =
        let l : at + length (written (subnegotiation (get_or s (at + 2) 0) (data_run (drop (at + 3) s)))) ≡ tail + 2 = simp length-append
        (omega arith) in
        rw (opened-closed h k, pair-front s tail g, eq-eqb (get_or s (tail + 1) 0) se e)
        (ap (event_found (Subnegotiation (get_or s (at + 2) 0)) (count (drop (at + 3) s))) l)

  -- after a 255 at the place
  pub iac-cut : length s ≤ at + 1 → answered at (after_iac (drop (at + 1) s)) ≡ Err CutShort
  unfolding answered after_iac
  iac-cut h = rw (drop_of_length-le s {i = at + 1} h)

  pub iac-lead : (l : Lead) → at + 1 < length s → lead (get_or s (at + 1) 0) ≡ l
      → answered at (after_iac (drop (at + 1) s)) ≡ answered at (after_lead l (get_or s (at + 1) 0) (drop (at + 2) s))
  unfolding after_iac
  iac-lead l h e =
      rw (at_front s (at + 1) h, e) (ap (λ k. answered at (after_lead l (get_or s (at + 1) 0) (drop k s))) (add_assoc at 1 1))

  -- the event at a place
  pub look-past : length s < at → look_at s at ≡ Err PastTheEnd
  unfolding look_at
  look-past h = rw (lt-ltb (length s) at h)

  pub looked : at ≤ length s → look_at s at ≡ answered at (event_of (drop at s))
  unfolding look_at
  looked h = rw (le-ltb (length s) at h)

  pub look-run : at ≤ length s → 0 < count (drop at s) → look_at s at ≡ event_found Data (count (drop at s)) (at + span (drop at s))
  unfolding answered event_of run_or count span written data_run
  look-run h k = looked h ∙ run_at (drop at s) k
    where
      runs : (d : List ℕ) (other : Front) → 0 < length d → answered at (run_or d other) ≡ event_found Data (length d) (at + length (doubled d))
      runs [] other l = absurd (omega arith)
      runs (x ∷ d) other l = refl

      run_at : (bs : List ℕ) → 0 < count bs → answered at (event_of bs) ≡ event_found Data (count bs) (at + span bs)
      run_at [] l = absurd (omega arith)
      run_at (b ∷ bs) l = runs (data_run (b ∷ bs)) (after_iac bs) l

  pub look-end : at ≡ length s → look_at s at ≡ Ok None
  unfolding answered event_of
  look-end h =
      let l : at ≤ length s = omega arith in
      let g : length s ≤ at = omega arith in
      looked l ∙ rw (drop_of_length-le s {i = at} g)

  pub look-command : at < length s → count (drop at s) ≡ 0 → look_at s at ≡ answered at (after_iac (drop (at + 1) s))
  unfolding event_of count run_or
  look-command h k =
      let l : at ≤ length s = omega arith in
      let none : data_run (get_or s at 0 ∷ drop (at + 1) s) ≡ [] = ap data_run (sym (at_front s at h)) ∙ empty (data_run (drop at s)) k in
      looked l ∙ rw (at_front s at h, none)
