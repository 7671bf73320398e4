-- The numbers of a record, stored one after the other, are one write. Assumes nothing.
use mathlib.Core.Path.{◌≡◌, sym, ◌∙◌}
use mathlib.Core.List.{List, [], ◌∷◌}
use Prim.Native.Nat.{ℕ, suc, ◌+◌, ◌≤◌}
use native.Mathlib.Nat.{add_assoc}
use native.Mathlib.Omega.{arith}
use lib.ListN.{length, set, length-set}
use Rattle.env.specs.Numbers.{record_width, numbers_of}
use Rattle.env.specs.declared.VariableRecord.{VariableRecord}
use Rattle.octets.specs.Lent.{overwrite}
use Rattle.octets.proofs.Overwrite.{overwrite-cons, overwrite-one}

-- the number at j after k is stored, and the rest is written from there on
next : (l : List ℕ) (k j b : ℕ) (y : List ℕ) → k + j + suc (length y) ≤ length l
    → overwrite l (k + j) (b ∷ y) ≡ overwrite (set l (k + j) b) (k + (j + 1)) y
next l k j b y h = rw (← add_assoc) (sym (overwrite-cons l (k + j) b y h))

pub record-stored : (l : List ℕ) (i : ℕ) (v : VariableRecord) → i + record_width ≤ length l
    → set (set (set (set (set (set l i v.kind) (i + 1) v.name_at) (i + 2) v.name_length) (i + 3) v.value_at) (i + 4) v.value_length) (i + 5) v.mark
    ≡ overwrite l i (numbers_of v)
record-stored l i v h =
    let a = v.kind in
    let b = v.name_at in
    let c = v.name_length in
    let d = v.value_at in
    let e = v.value_length in
    let m = v.mark in
    sym (
    sym (overwrite-cons l i a (b ∷ c ∷ d ∷ e ∷ m ∷ []) (omega arith))
    ∙ next (set l i a) i 1 b (c ∷ d ∷ e ∷ m ∷ []) (simp length-set (omega arith))
    ∙ next (set (set l i a) (i + 1) b) i 2 c (d ∷ e ∷ m ∷ []) (simp length-set (omega arith))
    ∙ next (set (set (set l i a) (i + 1) b) (i + 2) c) i 3 d (e ∷ m ∷ []) (simp length-set (omega arith))
    ∙ next (set (set (set (set l i a) (i + 1) b) (i + 2) c) (i + 3) d) i 4 e (m ∷ []) (simp length-set (omega arith))
    ∙ overwrite-one (set (set (set (set (set l i a) (i + 1) b) (i + 2) c) (i + 3) d) (i + 4) e) (i + 5) m (simp length-set (omega arith)))
