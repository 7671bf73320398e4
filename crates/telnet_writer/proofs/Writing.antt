-- The laws that each way out of the writer cites: doubling as a mark, stores in a row, and what an event's writing
-- answers. Assumes nothing.
use Rattle.std.specs.Prelude.{Ok, Err}
use mathlib.Core.Path.{◌≡◌, refl, sym, ap, ◌∙◌}
use mathlib.Core.Bool.{Bool, true, false}
use mathlib.Core.Logic.{⊎_elim}
use mathlib.Core.List.{List, [], ◌∷◌, ◌++◌}
use Prim.Native.Nat.{ℕ, ◌+◌, ◌≤◌, ◌<◌}
use native.Mathlib.Omega.{arith}
use lib.Dec.{eqb}
use lib.ListN.{length, set, length-append}
use lib.Seq.{sets}
use borrow.Author.Tests.{le-leb, lt-leb, eqb-true, eqb-false}
use Rattle.telnet.specs.Event.{Event, run, subnegotiation, iac, sb, se}
use Rattle.telnet.specs.Write.{doubled, written, writable}
use Rattle.telnet_writer.specs.Promise.{write_of, unwritable}
use Rattle.octets_marked.specs.Marked.{marked, put_marked}
use Rattle.octets_marked.proofs.Marked.{marked-size, put_whole, put-none}
use Rattle.octets.proofs.Front.{empty}
use Rattle.octets.proofs.Order.{below-or-above}
use Rattle.octets.specs.Lent.{outcome, overwrite}
use Rattle.octets.proofs.Overwrite.{length-overwrite, overwrite-append, stored, stored-pair}
use Rattle.octets.proofs.Promise.{front-short, front_fits}
use Rattle.refusal.specs.declared.Refusal.TheVariants.{NoRoom}

-- doubling is a mark of 255 before each 255
pub doubled-marked : (d : List ℕ) → doubled d ≡ marked iac iac iac d
unfolding doubled marked
doubled-marked [] = refl
doubled-marked (b ∷ d) = go (eqb b iac) refl (doubled-marked d)
  where
    go : (t : Bool) → eqb b iac ≡ t → doubled d ≡ marked iac iac iac d → doubled (b ∷ d) ≡ marked iac iac iac (b ∷ d)
    go true e h = rw (eqb-true b iac e, h)
    go false e h =
        let other = eqb-false b iac e in
        ⊎_elim (λ less. rw (e, lt-leb iac b less, h)) (λ more. rw (e, le-leb iac b more, lt-leb b iac (omega (arith, other)), h)) (below-or-above b iac)

-- the writer's stores for a subnegotiation: what opens it, its payload, what closes it
pub stored-subnegotiation : (o end : ℕ) (p out : List ℕ) → end ≡ 3 + length (doubled p) → end + 2 ≤ length out
    → set (set (overwrite (sets out 0 (iac ∷ sb ∷ o ∷ [])) 3 (doubled p)) end iac) (end + 1) se
    ≡ overwrite out 0 (written (subnegotiation o p))
unfolding written
stored-subnegotiation o end p out e h =
    let opens = iac ∷ sb ∷ o ∷ [] in
    let front = opens ++ doubled p in
    let closes = iac ∷ se ∷ [] in
    let f : 0 + length front ≡ end = simp length-append (omega arith) in
    let first = ap (λ l. overwrite l 3 (doubled p)) (stored opens out 0 (omega arith)) in
    let second = overwrite-append out 0 opens (doubled p) (omega arith) in
    let same = length-overwrite out 0 front (omega arith) in
    ap (λ l. set (set l end iac) (end + 1) se) (first ∙ second)
    ∙ stored-pair (overwrite out 0 front) end iac se (omega arith)
    ∙ ap (λ k. overwrite (overwrite out 0 front) k closes) (sym f)
    ∙ overwrite-append out 0 front closes (omega arith)

pub subnegotiation-length : (o : ℕ) (p : List ℕ) → length (written (subnegotiation o p)) ≡ 5 + length (doubled p)
unfolding written
subnegotiation-length o p = simp length-append (omega arith)

-- a run is writable where it has data
pub run-empty : (d : List ℕ) → length d ≡ 0 → writable (run d) ≡ false
unfolding writable
run-empty d h = rw (empty d h)

pub run-full : (d : List ℕ) → (length d ≡ 0 → ⊥) → writable (run d) ≡ true
unfolding writable
run-full [] n = absurd (n refl)
run-full (b ∷ d) n = refl

-- what the writing of an event answers
module _ (e : Event) (out : List ℕ) where
  pub not_written : writable e ≡ false → outcome (Err (unwritable e)) out ≡ write_of e out
  unfolding write_of
  not_written w = rw w

  pub not-fitting : writable e ≡ true → length out < length (written e) → outcome (Err NoRoom) out ≡ write_of e out
  unfolding write_of
  not-fitting w h = rw w (sym (front-short _ _ (written e) out h))

  pub fitting : writable e ≡ true → length (written e) ≤ length out
      → {n : ℕ} → n ≡ length (written e) → {l : List ℕ} → l ≡ overwrite out 0 (written e) → outcome (Ok n) l ≡ write_of e out
  unfolding write_of
  fitting w h g k = rw (w, g, k) (sym (front_fits _ _ (written e) out h))

-- a run that was put, by the place after it
module _ (d out : List ℕ) (full : length d ≡ 0 → ⊥) (n : ℕ) (l : List ℕ) (e : outcome n l ≡ put_marked iac iac iac d out 0) where
  pub run-not-fitting : n ≡ 0 → outcome (Err NoRoom) l ≡ write_of (run d) out
  unfolding written
  run-not-fitting z = ⊎_elim
      (λ less. ap (outcome (Err NoRoom)) (put-none iac iac iac d out 0 (doubled d) (doubled-marked d) (omega arith) e).1
      ∙ not-fitting (run d) out (run-full d full) less)
      (λ more.
      let whole = put_whole iac iac iac d out 0 (doubled d) (doubled-marked d) (omega arith) e in
      absurd (full (omega (arith, whole.0, marked-size iac iac iac d, ap length (doubled-marked d)))))
      (below-or-above (length out) (length (doubled d)))

  pub run-fitting : (n ≡ 0 → ⊥) → outcome (Ok n) l ≡ write_of (run d) out
  unfolding written
  run-fitting z = ⊎_elim
      (λ less. absurd (z (put-none iac iac iac d out 0 (doubled d) (doubled-marked d) (omega arith) e).0))
      (λ more.
      let whole = put_whole iac iac iac d out 0 (doubled d) (doubled-marked d) (omega arith) e in
      fitting (run d) out (run-full d full) more (omega (arith, whole.0)) whole.1)
      (below-or-above (length out) (length (doubled d)))
