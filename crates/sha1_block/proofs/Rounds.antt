-- The rounds by twenties: what holds in each, and what is between two rounds. Assumes nothing.
use Rattle.std.proofs.Common.{◌≡◌, ℕ, zero, suc, ◌+◌, ◌*◌, ◌<◌, ◌≤◌, List, [], ◌∷◌, ◌++◌, length, take, set, sym, refl, ap, ◌∙◌, append-nil, add-zero, zero-add, add-one, arith, length-take-le, take-suc-set, le-ltb, lt-ltb}
use Rattle.sha1_hash.specs.Sha1.{Five, by_round, extended, schedule, round, rounds}
use Rattle.sha1_block.specs.Internal.Between.{planned, Rounded}
use Rattle.sha1_block.proofs.Schedule.{none_left}

module _ {A : Type 0} (x y z u : A) (t : ℕ) where
  pub first : t < 20 → by_round t x y z u ≡ x
  unfolding by_round
  first h = rw (lt-ltb t 20 h)

  pub second : 20 ≤ t → t < 40 → by_round t x y z u ≡ y
  unfolding by_round
  second g h = rw (le-ltb t 20 g, lt-ltb t 40 h)

  pub third : 40 ≤ t → t < 60 → by_round t x y z u ≡ z
  unfolding by_round
  third g h =
      let p : 20 ≤ t = omega arith in
      rw (le-ltb t 20 p, le-ltb t 40 g, lt-ltb t 60 h)

  pub fourth : 60 ≤ t → by_round t x y z u ≡ u
  unfolding by_round
  fourth g =
      let p : 20 ≤ t = omega arith in
      let q : 40 ≤ t = omega arith in
      rw (le-ltb t 20 p, le-ltb t 40 q, le-ltb t 60 g)

-- a twenty is as its first round
pub same-twenty : {A : Type 0} (x y z u : A) (n t : ℕ) → 20 * n ≤ t → t < 20 * n + 20 → by_round t x y z u ≡ by_round (20 * n) x y z u
unfolding by_round
same-twenty x y z u zero t g h = first x y z u t (omega arith)
same-twenty x y z u (suc zero) t g h = second x y z u t (omega arith) (omega arith)
same-twenty x y z u (suc (suc zero)) t g h = third x y z u t (omega arith) (omega arith)
same-twenty x y z u (suc (suc (suc n))) t g h = fourth x y z u t (omega arith) ∙ sym (fourth x y z u (20 * suc (suc (suc n))) (omega arith))

pub same-round : (n t w : ℕ) (s : Five) → 20 * n ≤ t → t < 20 * n + 20 → round t w s ≡ round (20 * n) w s
unfolding round
same-round n t w s g h = rw (same-twenty _ _ _ _ n t g h, same-twenty _ _ _ _ n t g h)

pub rounds-append : (t : ℕ) (U W : List ℕ) (s : Five) → rounds t (U ++ W) s ≡ rounds (t + length U) W (rounds t U s)
unfolding rounds
rounds-append t [] W s = rw add-zero
rounds-append t (w ∷ U) W s =
    let e : suc t + length U ≡ t + suc (length U) = omega arith in
    rounds-append (suc t) U W (round t w s) ∙ ap (λ n. rounds n W (rounds (suc t) U (round t w s))) e

-- before the first round, whatever the array holds
pub rounded-first : (block : List ℕ) (H : Five) (w : List ℕ) → Rounded block H 0 w H
unfolding schedule rounds
rounded-first block H w = record { plan = refl; variables = refl }

-- a round, with its word put into the array
pub carried-one : (block : List ℕ) (t : ℕ) (w : List ℕ) (s : Five) (x : ℕ) → t < length w
    → planned block (t + 1) (take t w ++ x ∷ []) ≡ planned block t (take t w)
    → (H : Five) → Rounded block H t w s → Rounded block H (t + 1) (set w t x) (round t x s)
unfolding rounds
carried-one block t w s x h p H r =
    let e : take (t + 1) (set w t x) ≡ take t w ++ x ∷ [] = rw (add-one, take-suc-set w t x h) in
    let n : length (take t w) ≡ t = length-take-le t w (omega arith) in
    record { plan = rw e (p ∙ r.plan); variables = rw (e, rounds-append 0 (take t w) (x ∷ []) H, n, zero-add, ← r.variables) }

-- after the last round
pub rounded-last : (block : List ℕ) (H : Five) (w : List ℕ) (s : Five) → length block ≡ 64 → Rounded block H 80 w s
    → s ≡ rounds 0 (schedule block) H
unfolding extended
rounded-last block H w s e r =
    let all : take 80 w ≡ schedule block = rw (none_left block 80 (omega arith), append-nil) at r.plan in
    r.variables ∙ ap (λ W. rounds 0 W H) all
