-- What the look-up and the check of the table say of the explanation. Assumes nothing.
use Rattle.std.specs.Prelude.{Option, None, Some, Result, Ok, Err}
use mathlib.Core.Path.{◌≡◌, refl, sym, ap, subst, ◌∙◌}
use mathlib.Core.List.{List}
use Prim.Native.Nat.{ℕ}
use Rattle.refusal.specs.declared.Refusal.{Refusal}
use Rattle.octets.specs.Bytes.{Bytes}
use Rattle.env.specs.Variable.{Variable}
use Rattle.env.specs.Read.{says, not_read}
use Rattle.names.specs.Name.{raised}
use Rattle.profile.specs.Profile.{Profile}
use Rattle.profile.specs.Table.{TableReading, profiles, table_refused, table_of, profile_in}
use Rattle.profile.specs.Lookup.{ProfileLookup, no_profile, one_profile, profile_named}
use Rattle.profile_table.specs.declared.Entry.{Entry}
use Rattle.profile_table.specs.Answer.{checked, found_in}
use Rattle.profile_table.specs.Theorems.{Tells}
use Rattle.profile_table.proofs.Meaning.{found-is-named}
use Rattle.signon.specs.declared.Reason.{Reason}
use Rattle.signon.specs.Attempt.{attempt}
use Rattle.signon.specs.Reason.{explain_by}
use Rattle.signon_attempt.specs.Parts.{user_of, early_of, whole_of}
use Rattle.signon_attempt.proofs.Parting.{parts}

-- the profile of an entry
abbrev pub profile_of : List ℕ → Option Entry → ProfileLookup
profile_of table None = no_profile
profile_of table (Some e) = one_profile (profile_in table e.at)

-- what an explanation must be, by what the look-up in the table answers
abbrev pub Decides : List ℕ → List ℕ → List Variable → Result (Option Entry) Refusal → Type 0
Decides seed table vs (Ok entry) =
    (early : Option Reason) → early ≡ early_of vs → Ok (whole_of seed vs early (profile_of table entry)) ≡ explain_by seed (table_of table) (says 0 vs)
Decides seed table vs (Err e) = Err e ≡ explain_by seed (table_of table) (says 0 vs)

module _ (seed table : List ℕ) (vs : List Variable) (bytes : Bytes table) where
  abbrev name : List ℕ
  name = raised (user_of vs)

  -- the table reads as profiles
  module _ (ps : List Profile) (e : table_of table ≡ profiles ps) where
    given : (l : ProfileLookup) → profile_named name ps ≡ l → (early : Option Reason) → early ≡ early_of vs
        → Ok (whole_of seed vs early l) ≡ explain_by seed (table_of table) (says 0 vs)
    unfolding explain_by attempt
    given l f early k = rw (e, ← f, k) (ap Ok (parts seed vs (profile_named name ps)))

    decides-read : (f : Result (Option Entry) Refusal) → Tells table (profile_named name ps) f → Decides seed table vs f
    decides-read (Ok None) t = given no_profile t
    decides-read (Ok (Some d)) t = given (one_profile (profile_in table d.at)) t.0
    decides-read (Err r) t = absurd t

  decides-by : (r : TableReading) → table_of table ≡ r → Decides seed table vs (found_in name (table_of table))
  unfolding found_in explain_by
  decides-by (profiles ps) e = decides-read ps e (found_in name (table_of table)) (found-is-named table ps bytes e name)
  decides-by (table_refused r) e = subst (Decides seed table vs) (sym (ap (found_in name) e)) (sym (ap (λ r. explain_by seed r (says 0 vs)) e))

  pub decides : (user : List ℕ) → user ≡ user_of vs → (f : Result (Option Entry) Refusal) → f ≡ found_in (raised user) (table_of table)
      → Decides seed table vs f
  decides user u f e = subst (Decides seed table vs) (sym (e ∙ ap (λ n. found_in (raised n) (table_of table)) u)) (decides-by (table_of table) refl)

-- the answer where the payload is refused, by the check of the table
abbrev pub Refuses : List ℕ → Refusal → Result ℕ Refusal → Type 0
Refuses table refusal (Ok n) = (seed : List ℕ) → Err refusal ≡ explain_by seed (table_of table) (not_read refusal)
Refuses table refusal (Err e) = (seed : List ℕ) → Err e ≡ explain_by seed (table_of table) (not_read refusal)

refuses-by : (table : List ℕ) (refusal : Refusal) (r : TableReading) → table_of table ≡ r → Refuses table refusal (checked (table_of table))
unfolding checked explain_by
refuses-by table refusal (profiles ps) e = subst (Refuses table refusal) (sym (ap checked e)) (λ seed. sym (ap (λ r. explain_by seed r (not_read refusal)) e))
refuses-by table refusal (table_refused f) e = subst (Refuses table refusal) (sym (ap checked e)) (λ seed. sym (ap (λ r. explain_by seed r (not_read refusal)) e))

pub refuses : (table : List ℕ) (refusal : Refusal) (t : Result ℕ Refusal) → t ≡ checked (table_of table) → Refuses table refusal t
refuses table refusal t e = subst (Refuses table refusal) (sym e) (refuses-by table refusal (table_of table) refl)

-- the first byte of a payload decides nothing
pub any-first : (seed : List ℕ) (r : TableReading) (first : ℕ) (vs : List Variable) → explain_by seed r (says 0 vs) ≡ explain_by seed r (says first vs)
unfolding explain_by
any-first seed (profiles ps) first vs = refl
any-first seed (table_refused e) first vs = refl
