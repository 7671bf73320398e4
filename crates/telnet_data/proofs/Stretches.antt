-- The laws of a stretch: it is one piece after another, plain bytes or a doubled 255, and ends where there is neither.
-- Assumes nothing.
use mathlib.Core.Path.{◌≡◌, refl, sym, ap, ◌∙◌}
use mathlib.Core.Bool.{Bool, true, false, ◌&&◌}
use mathlib.Core.List.{List, [], ◌∷◌, ◌++◌, append_assoc, append-nil}
use Prim.Native.Nat.{ℕ, zero, suc, ◌+◌, ◌-◌, ◌≤◌, ◌<◌}
use native.Mathlib.Omega.{arith}
use lib.Dec.{eqb}
use lib.ListN.{length, take, drop, get_or, length-append, length-drop, length-take, drop_of_length-le}
use lib.Seq.{drop-drop}
use borrow.Author.Tests.{eqb-true}
use Rattle.octets.specs.Find.{up_to}
use Rattle.octets.proofs.Front.{pair-front}
use Rattle.telnet.specs.Event.{iac}
use Rattle.telnet.specs.Write.{doubled}
use Rattle.telnet.specs.Read.{data_run}
use Rattle.telnet.proofs.Stretch.{doubled-longer, doubled-append, stretch}
use Rattle.telnet_data.specs.declared.Extent.{Extent}
use Rattle.telnet_data.specs.Promise.{count, span, extent_at}
use Rattle.telnet_data.specs.Internal.Pieces.{is_doubled, plain}

-- a stretch lies within its bytes, and carries no more
pub span-within : (bs : List ℕ) → span bs ≤ length bs
unfolding span
span-within bs = omega (arith, simp length-append at (ap length (stretch bs).whole))

pub count-within : (bs : List ℕ) → count bs ≤ length bs
unfolding count span
count-within bs = omega (arith, doubled-longer (data_run bs), span-within bs)

-- a stretch that was measured, by its parts
pub record Measured (s : List ℕ) (at : ℕ) (r : Extent) : Type 0 where
  pub counted : r.count ≡ count (drop at s)
  pub ended : r.end ≡ at + span (drop at s)

pub measured : (s : List ℕ) (at : ℕ) (r : Extent) → r ≡ extent_at s at → Measured s at r
unfolding extent_at
measured s at r e = record { counted = ap (λ (x : Extent). x.count) e; ended = ap (λ (x : Extent). x.end) e }

-- plain bytes at the front, all up to the next 255 or fewer
record Plain (n : ℕ) (bs : List ℕ) : Type 0 where
  bytes : data_run bs ≡ take n bs ++ data_run (drop n bs)
  once : length (doubled (take n bs)) ≡ n
  there : n ≤ length bs

plain-front : (n : ℕ) (bs : List ℕ) → n ≤ length (up_to iac bs) → Plain n bs
unfolding data_run doubled up_to
plain-front zero bs h = record { bytes = refl; once = refl; there = omega arith }
plain-front (suc n) [] h = absurd (omega arith)
plain-front (suc n) (b ∷ bs) h = go (eqb b iac) refl (plain-front n bs)
  where
    go : (t : Bool) → eqb b iac ≡ t → (n ≤ length (up_to iac bs) → Plain n bs) → Plain (suc n) (b ∷ bs)
    go true e f = let z : suc n ≤ 0 = rw e at h in absurd (omega arith)
    go false e f =
        let l : suc n ≤ suc (length (up_to iac bs)) = rw e at h in
        let p = f (omega arith) in
        record { bytes = rw e (ap (λ x. b ∷ x) p.bytes); once = rw e (ap suc p.once); there = omega (arith, p.there) }

-- a doubled 255 at the front
doubled-front : (bs : List ℕ) → is_doubled bs ≡ true → data_run bs ≡ iac ∷ data_run (drop 2 bs)
unfolding data_run is_doubled
doubled-front [] h = cc
doubled-front (b ∷ []) h = cc
doubled-front (b ∷ c ∷ bs) h = go (eqb b iac) refl (eqb c iac) refl
  where
    go : (t : Bool) → eqb b iac ≡ t → (u : Bool) → eqb c iac ≡ u → data_run (b ∷ c ∷ bs) ≡ iac ∷ data_run bs
    go true e true f = rw (e, f) (ap (λ x. x ∷ data_run bs) (eqb-true c iac f))
    go true e false f = let z : ◌≡◌ {A = Bool} false true = rw (e, f) at h in cc
    go false e u f = let z : ◌≡◌ {A = Bool} false true = rw e at h in cc

-- where the plain bytes end, there are no data but after a doubled 255
plain-stops : (bs : List ℕ) → is_doubled (drop (length (up_to iac bs)) bs) ≡ false → data_run (drop (length (up_to iac bs)) bs) ≡ []
unfolding data_run is_doubled up_to
plain-stops [] h = refl
plain-stops (b ∷ []) h = go (eqb b iac) refl
  where
    go : (t : Bool) → eqb b iac ≡ t → data_run (drop (length (up_to iac (b ∷ []))) (b ∷ [])) ≡ []
    go true e = rw (e, e)
    go false e = rw e
plain-stops (b ∷ c ∷ bs) h = go (eqb b iac) refl (eqb c iac) refl (plain-stops (c ∷ bs))
  where
    go : (t : Bool) → eqb b iac ≡ t → (u : Bool) → eqb c iac ≡ u
        → (is_doubled (drop (length (up_to iac (c ∷ bs))) (c ∷ bs)) ≡ false → data_run (drop (length (up_to iac (c ∷ bs))) (c ∷ bs)) ≡ [])
        → data_run (drop (length (up_to iac (b ∷ c ∷ bs))) (b ∷ c ∷ bs)) ≡ []
    go true e true f r = let z : ◌≡◌ {A = Bool} true false = rw (e, e, f) at h in cc
    go true e false f r = rw (e, e, f)
    go false e u f r = rw e (r (rw e at h))

-- a piece of the stretch at a place: its bytes, and the place after it where the stretch goes on
pub record Piece (s : List ℕ) (at : ℕ) (d : List ℕ) (i : ℕ) : Type 0 where
  pub bytes : data_run (drop at s) ≡ d ++ data_run (drop i s)
  pub place : i ≡ at + length (doubled d)

pub no-piece : (s : List ℕ) (at : ℕ) → Piece s at [] at
unfolding doubled
no-piece s at = record { bytes = refl; place = omega arith }

module _ {s : List ℕ} {at : ℕ} {d : List ℕ} {i : ℕ} (p : Piece s at d i) where
  pub joined : {x : List ℕ} {j : ℕ} → Piece s i x j → Piece s at (d ++ x) j
  joined {x} {j} q = record {
    bytes = p.bytes ∙ ap (λ l. d ++ l) q.bytes ∙ sym (append_assoc d x (data_run (drop j s)));
    place = rw (doubled-append, length-append) (omega arith);
  }

  -- it lies within the line
  pub within : (at + length d ≤ i) × (i ≤ at + (length s - at))
  unfolding span
  within =
      let all : length (doubled (data_run (drop at s))) ≡ length (doubled d) + length (doubled (data_run (drop i s))) =
      ap (λ l. length (doubled l)) p.bytes ∙ rw (doubled-append, length-append) in
      (omega (arith, doubled-longer d), omega (arith, span-within (drop at s), length-drop at s))

  -- it is the whole where the stretch ends after it
  pub whole : data_run (drop i s) ≡ [] → data_run (drop at s) ≡ d
  whole e = p.bytes ∙ rw (e, append-nil)

module _ (s : List ℕ) (i : ℕ) where
  pub plain-piece : (n : ℕ) → n ≤ plain s i → Piece s i (take n (drop i s)) (i + n)
  plain-piece n h =
      let p = plain-front n (drop i s) h in
      record { bytes = rw (← drop-drop n i s) p.bytes; place = omega arith }

  pub plain-length : (n : ℕ) → n ≤ plain s i → length (take n (drop i s)) ≡ n
  plain-length n h = rw length-take (omega (arith, plain-front n (drop i s) h))

  pub doubled-piece : is_doubled (drop i s) ≡ true → Piece s i (iac ∷ []) (i + 2)
  unfolding doubled
  doubled-piece h = record { bytes = rw (← drop-drop 2 i s) (doubled-front (drop i s) h); place = refl }

  -- where there is neither, or the line ends, the stretch ends
  pub stopped : (j : ℕ) → j ≡ i + plain s i → is_doubled (drop j s) ≡ false → data_run (drop j s) ≡ []
  stopped j e h = rw (e, ← drop-drop (plain s i) i s) (plain-stops (drop i s) (rw (e, ← drop-drop (plain s i) i s) at h))

  pub ended : length s ≤ i → data_run (drop i s) ≡ []
  unfolding data_run
  ended h = rw (drop_of_length-le s {i = i} h)

  -- whether a doubled 255 is at a place, by the bytes there
  pub doubled-short : length s < i + 2 → is_doubled (drop i s) ≡ false
  unfolding is_doubled
  doubled-short h = short (drop i s) (omega (arith, length-drop i s))
    where
      short : (bs : List ℕ) → length bs < 2 → is_doubled bs ≡ false
      short [] l = refl
      short (b ∷ []) l = refl
      short (b ∷ c ∷ bs) l = absurd (omega arith)

  pub doubled-pair : i + 1 < length s → is_doubled (drop i s) ≡ eqb (get_or s i 0) iac && eqb (get_or s (i + 1) 0) iac
  unfolding is_doubled
  doubled-pair h = rw (pair-front s i h)

-- `n` bytes of the stretch at a place are passed, up to the place `i` after them
pub record Passed (s : List ℕ) (at i n : ℕ) : Type 0 where
  pub passed : List ℕ
  pub piece : Piece s at passed i
  pub number : n ≡ length passed

pub pass-none : (s : List ℕ) (at : ℕ) → Passed s at at 0
pass-none s at = record { passed = []; piece = no-piece s at; number = refl }

module _ {s : List ℕ} {at i n : ℕ} (p : Passed s at i n) where
  pub pass-within : (at + n ≤ i) × (i ≤ at + (length s - at))
  pass-within = omega (arith, within p.piece)

  pub pass-plain : (j : ℕ) → j ≡ i + plain s i → Passed s at j (n + (j - i))
  pass-plain j e =
      let k = plain s i in
      record {
        passed = p.passed ++ take k (drop i s);
        piece = rw e (joined p.piece (plain-piece s i k (omega arith)));
        number = rw length-append (omega (arith, plain-length s i k (omega arith)));
      }

  pub pass-doubled : is_doubled (drop i s) ≡ true → Passed s at (i + 2) (n + 1)
  pass-doubled e = record {
    passed = p.passed ++ iac ∷ [];
    piece = joined p.piece (doubled-piece s i e);
    number = rw length-append (omega arith);
  }

  -- where the stretch ends, all of it is passed
  pub pass_all : data_run (drop i s) ≡ [] → ◌≡◌ {A = Extent} (record { count = n; end = i }) (extent_at s at)
  unfolding extent_at count span
  pass_all e = rw (whole p.piece e, ← p.piece.place, p.number)
