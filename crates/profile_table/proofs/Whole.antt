-- A whole table: its version, what its scan says of the count, and names that are in no table. Assumes nothing.
use Rattle.std.specs.Prelude.{if◌then◌else◌, Option, None, Result, Ok, Err}
use mathlib.Core.Path.{◌≡◌, refl, sym, ap, subst, ◌∙◌}
use mathlib.Core.Bool.{Bool, true, false}
use mathlib.Core.List.{List, [], ◌∷◌}
use Prim.Native.Nat.{ℕ, ◌+◌, ◌-◌, ◌≤◌, ◌<◌}
use native.Mathlib.Nat.{zero-add, sub-zero}
use native.Mathlib.Omega.{arith}
use borrow.Author.Tests.{eq-eqb, ne_eqb}
use denote.Floats.{passes, is_true}
use lib.Dec.{T}
use lib.ListN.{length, get_or, take, drop}
use Rattle.octets.specs.Bytes.{Bytes}
use Rattle.octets.specs.Same.{same}
use Rattle.octets.proofs.Choice.{choice}
use Rattle.octets.proofs.Equality.{same-sound}
use Rattle.refusal.specs.declared.Refusal.{Refusal}
use Rattle.refusal.specs.declared.Refusal.TheVariants.{BadTable}
use Rattle.names.specs.declared.Name.{Name}
use Rattle.names.specs.Name.{raised, is_name, is_raised_name, name, named, profile_limit}
use Rattle.names.specs.Padding.{filled}
use Rattle.names.proofs.Held.{raised-is-raised, held-within, held_bytes}
use Rattle.profile.specs.Profile.{Shape, Profile, record_bytes}
use Rattle.profile.specs.Table.{profile_count, profiles_from, TableReading, profiles, table_refused, table_of, shape_in}
use Rattle.profile.specs.Theorems.{Ascending}
use Rattle.profile.proofs.Backs.{TableMeans, table-means}
use Rattle.profile_table.specs.declared.Entry.{Entry}
use Rattle.profile_table.specs.declared.Scan.{Scan}
use Rattle.profile_table.specs.Answer.{checked, found_from, found_in}
use Rattle.profile_table.specs.Internal.Steps.{scanned}

pub no_table : (t : List ℕ) → length t ≡ 0 → table_of t ≡ table_refused BadTable
unfolding table_of
no_table [] h = refl
no_table (v ∷ bs) h = absurd (omega arith)

pub other-version : (t : List ℕ) → 0 < length t → (get_or t 0 0 ≡ 1 → ⊥) → table_of t ≡ table_refused BadTable
unfolding table_of
other-version [] h n = absurd (omega arith)
other-version (v ∷ bs) h n = rw (ne_eqb v 1 n)

pub by-records : (t : List ℕ) → 0 < length t → get_or t 0 0 ≡ 1 → table_of t ≡ profiles_from (shape_in t) profile_count [] (drop 1 t)
unfolding table_of
by-records [] h e = absurd (omega arith)
by-records (v ∷ bs) h e = rw (eq-eqb v 1 e)

-- what is answered of a scan: its count, and what it found
abbrev pub count_of : Result Scan Refusal → Result ℕ Refusal
count_of (Ok s) = Ok s.count
count_of (Err e) = Err e

abbrev pub found_of : Result Scan Refusal → Result (Option Entry) Refusal
found_of (Ok s) = Ok s.found
found_of (Err e) = Err e

pub counted : (n : List ℕ) (r : TableReading) → count_of (scanned n r) ≡ checked r
unfolding checked
counted n (profiles ps) = rw zero-add
counted n (table_refused e) = refl

pub scan-finds : (n : List ℕ) (r : TableReading) → found_of (scanned n r) ≡ found_in n r
unfolding found_in
scan-finds n (profiles ps) = refl
scan-finds n (table_refused e) = refl

-- a text that is no raised name is in no table
unnamed-from : (s : Shape) (before n : List ℕ) (at : ℕ) (ps : List Profile) → is_raised_name profile_limit n ≡ false → Ascending s before ps
    → found_from at n ps ≡ None
unfolding found_from
unnamed-from s before n at [] bad asc = refl
unnamed-from s before n at (p ∷ ps) bad (w, (o, asc)) =
    choice (λ f. f ≡ None) (same n p.name)
    (λ t.
    let e = same-sound n p.name (passes (same n p.name) t) in
    let good : T (is_raised_name profile_limit n) = subst (λ (l : List ℕ). T (is_raised_name profile_limit l)) (sym e) w.name in
    absurd (subst T bad good))
    (λ _. unnamed-from s p.name n (at + length (record_bytes p)) ps bad asc)

unnamed : (t m n : List ℕ) (r : TableReading) → TableMeans t r → is_raised_name profile_limit m ≡ false → is_raised_name profile_limit n ≡ false → found_in m r ≡ found_in n r
unfolding found_in
unnamed t m n (profiles ps) means a b =
    ap Ok (unnamed-from (shape_in t) [] m 1 ps a means.ascending ∙ sym (unnamed-from (shape_in t) [] n 1 ps b means.ascending))
unnamed t m n (table_refused k) means a b = refl

-- the name that is held of a text finds what the text raised finds
module _ (t text : List ℕ) (bytes : Bytes t) (h : Name) (e : h ≡ named profile_limit text) where
  abbrev Finds : Name → Type 0
  Finds n = (n.length ≤ length n.bytes) × (found_in (take (n.length - 0) n.bytes) (table_of t) ≡ found_in (raised text) (table_of t))

  none-held : is_name profile_limit text ≡ false → Finds (name [])
  unfolding is_raised_name
  none-held bad = (
    omega arith,
    unnamed t [] (raised text) (table_of t) (table-means t bytes) refl (raised-is-raised profile_limit text ∙ bad),
  )

  pub found-held : Finds h
  unfolding named
  found-held =
      rw e (choice Finds (is_name profile_limit text)
      (λ good. let eq : name (raised text) ≡ named profile_limit text = rw good in (
        held-within text good (name (raised text)) eq,
        ap (λ n. found_in n (table_of t)) (held_bytes text good (name (raised text)) eq),
      ))
      none-held)

  -- and so does the scan for it
  pub scan-held : (s : Result Scan Refusal) → s ≡ scanned (take (h.length - 0) h.bytes) (table_of t) → found_of s ≡ found_in (raised text) (table_of t)
  scan-held s g = ap found_of g ∙ scan-finds (take (h.length - 0) h.bytes) (table_of t) ∙ found-held.1
