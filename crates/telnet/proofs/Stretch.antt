-- Bytes are a stretch of data, doubled, and what stops it (`stretch`); the reading goes through a doubled stretch as
-- one piece (`absorb`). Assumes nothing.
use Rattle.std.specs.Prelude.{if◌then◌else◌}
use mathlib.Core.Path.{◌≡◌, refl, ap, ◌∙◌}
use mathlib.Core.Bool.{Bool, true, false}
use mathlib.Core.List.{List, [], ◌∷◌, ◌++◌, append-nil}
use Prim.Native.Nat.{ℕ, suc, ◌+◌, ◌≤◌, ◌<◌}
use native.Mathlib.Omega.{arith}
use borrow.Author.Tests.{eqb-true, lt-ltb}
use lib.Dec.{eqb}
use lib.ListN.{length, drop, length-append}
use lib.Seq.{append_snoc, drop-append_seam}
use Rattle.telnet.specs.Event.{Event, iac, payload_limit}
use Rattle.telnet.specs.Write.{doubled}
use Rattle.telnet.specs.Read.{data_run}
use Rattle.telnet.specs.Whole.{Mode, data', iac_seen, payload, closing, goes, step_byte, grown, before, reading_from}

-- nothing, a 255 alone, or a 255 that is not doubled
pub data Stopped : List ℕ → Type 0 where
  at-end : Stopped []
  at-iac : {b : ℕ} → eqb b iac ≡ true → Stopped (b ∷ [])
  at-command : {b c : ℕ} {bs : List ℕ} → eqb b iac ≡ true → eqb c iac ≡ false → Stopped (b ∷ c ∷ bs)

pub record Stretched (bs : List ℕ) : Type 0 where
  pub rest : List ℕ
  pub whole : bs ≡ doubled (data_run bs) ++ rest
  pub stopped : Stopped rest

pub doubled-other : (b : ℕ) (d : List ℕ) → eqb b iac ≡ false → doubled (b ∷ d) ≡ b ∷ doubled d
unfolding doubled
doubled-other b d e = rw e

pub doubled-iac : (b : ℕ) (d : List ℕ) → eqb b iac ≡ true → doubled (b ∷ d) ≡ b ∷ b ∷ doubled d
unfolding doubled
doubled-iac b d e = rw e

-- doubling takes no byte away
pub doubled-longer : (d : List ℕ) → length d ≤ length (doubled d)
unfolding doubled
doubled-longer [] = omega arith
doubled-longer (b ∷ d) = go (eqb b iac) (doubled-longer d)
  where
    go : (t : Bool) → length d ≤ length (doubled d) → suc (length d) ≤ length (if t then b ∷ b ∷ doubled d else b ∷ doubled d)
    go true h = omega arith
    go false h = omega arith

pub doubled-append : (c d : List ℕ) → doubled (c ++ d) ≡ doubled c ++ doubled d
unfolding doubled
doubled-append [] d = refl
doubled-append (b ∷ c) d = go (eqb b iac) (doubled-append c d)
  where
    go : (t : Bool) → doubled (c ++ d) ≡ doubled c ++ doubled d
        → (if t then b ∷ b ∷ doubled (c ++ d) else b ∷ doubled (c ++ d)) ≡ (if t then b ∷ b ∷ doubled c else b ∷ doubled c) ++ doubled d
    go true e = rw e
    go false e = rw e

longer : (b : ℕ) (bs : List ℕ) → eqb b iac ≡ false → Stretched bs → Stretched (b ∷ bs)
unfolding data_run
longer b bs e s = record {
  rest = s.rest;
  whole = rw (e, doubled-other b (data_run bs) e) (ap (λ l. b ∷ l) s.whole);
  stopped = s.stopped;
}

longer-by-two : (b c : ℕ) (bs : List ℕ) → eqb b iac ≡ true → eqb c iac ≡ true → Stretched bs → Stretched (b ∷ c ∷ bs)
unfolding data_run
longer-by-two b c bs e f s = record {
  rest = s.rest;
  whole = rw (e, f, doubled-iac c (data_run bs) f) (cc (eqb-true b iac e, eqb-true c iac f, s.whole));
  stopped = s.stopped;
}

stops-here : (bs : List ℕ) → data_run bs ≡ [] → Stopped bs → Stretched bs
unfolding doubled
stops-here bs e s = record { rest = bs; whole = rw e; stopped = s }

pub stretch : (bs : List ℕ) → Stretched bs
unfolding data_run
stretch [] = stops-here [] refl at-end
stretch (b ∷ []) = go (eqb b iac) refl
  where
    go : (t : Bool) → eqb b iac ≡ t → Stretched (b ∷ [])
    go true e = stops-here (b ∷ []) (rw e) (at-iac e)
    go false e = longer b [] e (stops-here [] refl at-end)
stretch (b ∷ c ∷ bs) = go (eqb b iac) refl (eqb c iac) refl (stretch (c ∷ bs)) (stretch bs)
  where
    go : (t : Bool) → eqb b iac ≡ t → (u : Bool) → eqb c iac ≡ u → Stretched (c ∷ bs) → Stretched bs → Stretched (b ∷ c ∷ bs)
    go false e u f s s' = longer b (c ∷ bs) e s
    go true e true f s s' = longer-by-two b c bs e f s'
    go true e false f s s' = stops-here (b ∷ c ∷ bs) (rw (e, f)) (at-command e f)

-- the bytes after a stretch are the rest
pub after-stretch : (bs : List ℕ) (s : Stretched bs) → drop (length (doubled (data_run bs))) bs ≡ s.rest
after-stretch bs s = ap (drop (length (doubled (data_run bs)))) s.whole ∙ drop-append_seam (doubled (data_run bs)) s.rest

pub one-step : (m : Mode) (b : ℕ) (bs : List ℕ) {es : List Event} {m' : Mode} → step_byte m b ≡ goes es m'
    → reading_from m (b ∷ bs) ≡ before es (reading_from m' bs)
unfolding reading_from
one-step m b bs e = rw e

-- two modes that collect bytes, at most n: σ in the stretch, ε after a 255 there
pub record Absorbs (σ ε : List ℕ → Mode) (n : ℕ) : Type 0 where
  pub plain : (p : List ℕ) (b : ℕ) → length p < n → eqb b iac ≡ false → step_byte (σ p) b ≡ goes [] (σ (p ++ b ∷ []))
  pub into : (p : List ℕ) (b : ℕ) → eqb b iac ≡ true → step_byte (σ p) b ≡ goes [] (ε p)
  pub out : (p : List ℕ) (b : ℕ) → length p < n → eqb b iac ≡ true → step_byte (ε p) b ≡ goes [] (σ (p ++ b ∷ []))

pub absorb : (σ ε : List ℕ → Mode) (n : ℕ) → Absorbs σ ε n → (p d bs : List ℕ) → length p + length d ≤ n
    → reading_from (σ p) (doubled d ++ bs) ≡ reading_from (σ (p ++ d)) bs
unfolding doubled
absorb σ ε n a p [] bs h = rw append-nil
absorb σ ε n a p (b ∷ d) bs h = go (eqb b iac) refl (absorb σ ε n a (p ++ b ∷ []) d bs (simp length-append (omega arith)))
  where
    more : length p < n
    more = omega arith

    go : (t : Bool) → eqb b iac ≡ t → reading_from (σ (p ++ b ∷ [])) (doubled d ++ bs) ≡ reading_from (σ (p ++ b ∷ [] ++ d)) bs
        → reading_from (σ p) (doubled (b ∷ d) ++ bs) ≡ reading_from (σ (p ++ b ∷ d)) bs
    go true e r = rw (e, ← append_snoc p b d) (one-step (σ p) b _ (a.into p b e) ∙ one-step (ε p) b _ (a.out p b more e) ∙ r)
    go false e r = rw (e, ← append_snoc p b d) (one-step (σ p) b _ (a.plain p b more e) ∙ r)

pub absorbs-data : (n : ℕ) → Absorbs data' iac_seen n
unfolding step_byte
absorbs-data n = record { plain = λ p b h e. rw e; into = λ p b e. rw e; out = λ p b h e. rw e }

pub absorbs-payload : (o : ℕ) → Absorbs (payload o) (closing o) payload_limit
unfolding step_byte grown
absorbs-payload o = record {
  plain = λ p b h e. rw (e, lt-ltb (length p) payload_limit h);
  into = λ p b e. rw e;
  out = λ p b h e. rw (e, lt-ltb (length p) payload_limit h);
}

pub payload-read : (o : ℕ) (d bs : List ℕ) → length d ≤ payload_limit
    → reading_from (payload o []) (doubled d ++ bs) ≡ reading_from (payload o d) bs
payload-read o d bs h = absorb (payload o) (closing o) payload_limit (absorbs-payload o) [] d bs (omega arith)
