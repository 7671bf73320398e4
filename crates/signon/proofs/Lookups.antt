-- What a look-up among variables that are not repeated says of them. Assumes nothing.
use mathlib.Core.Path.{◌≡◌, refl, sym, ap, subst, ◌∙◌}
use mathlib.Core.Bool.{false}
use mathlib.Core.List.{List, [], ◌∷◌, ◌++◌}
use Prim.Native.Nat.{ℕ}
use native.Mathlib.Omega.{arith}
use lib.Dec.{T}
use denote.Floats.{passes, is_true}
use Rattle.octets.proofs.Choice.{choice}
use Rattle.env.specs.Variable.{Value, undefined, defined, Variable, is, among, repeated, Lookup, absent, present, or_further, lookup}
use Rattle.env.specs.Theorems.{Occurs}
use Rattle.env.proofs.Repeats.{is-both, among-is-occurs}
use Rattle.env.proofs.Sound.{neither}
use Rattle.signon.specs.Theorems.{Told, Untold}

-- what a look-up that finds something, or nothing, says
abbrev pub Finds : List Variable → ℕ → List ℕ → Lookup → Type 0
Finds vs kind name absent = Untold vs kind name
Finds vs kind name (present value) = Told vs kind name value

module _ (kind : ℕ) (name : List ℕ) where
  -- what is found further on, where a variable before it gives nothing
  absent-further : (v : Value) (l : Lookup) → or_further v l ≡ absent → l ≡ absent
  unfolding or_further
  absent-further undefined l e = e
  absent-further (defined value) l e = let z : ◌≡◌ {A = ℕ} 0 1 = cc in absurd (omega arith)

  absent-undefined : (v : Value) (l : Lookup) → or_further v l ≡ absent → v ≡ undefined
  unfolding or_further
  absent-undefined undefined l e = refl
  absent-undefined (defined value) l e = let z : ◌≡◌ {A = ℕ} 0 1 = cc in absurd (omega arith)

  passed_over : (before : List Variable) (v : Variable) (after : List Variable) → kind ≡ v.kind → name ≡ v.name
      → lookup kind name (before ++ v ∷ after) ≡ absent → v.value ≡ undefined
  unfolding lookup
  passed_over [] v after k n =
      choice (λ l. l ≡ absent → v.value ≡ undefined) (is kind name v) (λ _ e. absent-undefined v.value (lookup kind name after) e)
      (λ no e. absurd (subst T no ((is-both kind name v).1 (k, n))))
  passed_over (w ∷ ws) v after k n =
      let rest = passed_over ws v after k n in
      choice (λ l. l ≡ absent → v.value ≡ undefined) (is kind name w)
      (λ _ e. rest (absent-further w.value (lookup kind name (ws ++ v ∷ after)) e)) (λ _ e. rest e)

  absent-untold : (vs : List Variable) → lookup kind name vs ≡ absent → Untold vs kind name
  absent-untold vs e o =
      passed_over o.before o.it o.after o.same_kind o.same_name (sym (ap (lookup kind name) o.there) ∙ e)

  -- what is told among some is told among one more
  told-later : (v : Variable) (vs : List Variable) (value : List ℕ) → Told vs kind name value → Told (v ∷ vs) kind name value
  told-later v vs value t = let o = t.occurs in record {
    occurs = record { before = v ∷ o.before; it = o.it; after = o.after; there = ap (λ l. v ∷ l) o.there; same_kind = o.same_kind; same_name = o.same_name };
    says = t.says;
  }

  told_here : (v : Variable) (vs : List Variable) (u : Value) (value : List ℕ) → v.value ≡ u → T (is kind name v)
      → (lookup kind name vs ≡ present value → Told vs kind name value)
      → or_further u (lookup kind name vs) ≡ present value → Told (v ∷ vs) kind name value
  unfolding or_further
  told_here v vs undefined value u i later e = told-later v vs value (later e)
  told_here v vs (defined x) value u i later e = let b = (is-both kind name v).0 i in record {
    occurs = record { before = []; it = v; after = vs; there = refl; same_kind = b.0; same_name = b.1 };
    says = cc;
  }

  present-told : (vs : List Variable) (value : List ℕ) → lookup kind name vs ≡ present value → Told vs kind name value
  unfolding lookup
  present-told [] value = λ e. let z : ◌≡◌ {A = ℕ} 0 1 = cc in absurd (omega arith)
  present-told (v ∷ vs) value =
      choice (λ l. l ≡ present value → Told (v ∷ vs) kind name value) (is kind name v)
      (λ i e. told_here v vs v.value value refl (passes (is kind name v) i) (present-told vs value) e)
      (λ _ e. told-later v vs value (present-told vs value e))

  finds-by : (vs : List Variable) (l : Lookup) → lookup kind name vs ≡ l → Finds vs kind name l
  finds-by vs absent e = absent-untold vs e
  finds-by vs (present value) e = present-told vs value e

  pub finds : (vs : List Variable) → Finds vs kind name (lookup kind name vs)
  finds vs = finds-by vs (lookup kind name vs) refl

  -- the first of a kind and name is the only one
  first_found : (before : List Variable) (v : Variable) (after : List Variable) (value : List ℕ) → kind ≡ v.kind → name ≡ v.name
      → v.value ≡ defined value → repeated (before ++ v ∷ after) ≡ false → lookup kind name (before ++ v ∷ after) ≡ present value
  unfolding lookup repeated or_further
  first_found [] v after value k n says once = rw (is_true (is kind name v) ((is-both kind name v).1 (k, n)), says)
  first_found (w ∷ ws) v after value k n says once =
      let apart = neither (among w.kind w.name (ws ++ v ∷ after)) (repeated (ws ++ v ∷ after)) once in
      choice (λ l. l ≡ present value) (is kind name w)
      (λ yes.
      let b = (is-both kind name w).0 (passes (is kind name w) yes) in
      let again : Occurs w.kind w.name (ws ++ v ∷ after) =
      record { before = ws; it = v; after = after; there = refl; same_kind = sym b.0 ∙ k; same_name = sym b.1 ∙ n } in
      absurd (subst T apart.0 ((among-is-occurs w.kind w.name (ws ++ v ∷ after)).1 again)))
      (λ _. first_found ws v after value k n says apart.1)

  pub told-found : (vs : List Variable) (value : List ℕ) → repeated vs ≡ false → Told vs kind name value → lookup kind name vs ≡ present value
  told-found vs value once t =
      let o = t.occurs in
      ap (lookup kind name) o.there
      ∙ first_found o.before o.it o.after value o.same_kind o.same_name t.says (sym (ap repeated o.there) ∙ once)

  pub told-once : (vs : List Variable) (a b : List ℕ) → repeated vs ≡ false → Told vs kind name a → Told vs kind name b → a ≡ b
  told-once vs a b once s t =
      let one = told-found vs a once s in
      let other = told-found vs b once t in
      cc

  -- what is told is not untold
  pub not-both : (vs : List Variable) (value : List ℕ) → Told vs kind name value → Untold vs kind name → ⊥
  not-both vs value t none =
      let e = sym (none t.occurs) ∙ t.says in
      let z : ◌≡◌ {A = ℕ} 0 1 = cc in
      omega arith
