-- A verdict is given exactly where its sentence holds: the theorems of `specs/Theorems.antt`. Assumes nothing.
use Rattle.std.specs.Prelude.{if◌then◌else◌, Result, Ok, Err}
use mathlib.Core.Path.{◌≡◌, refl, sym, ap, subst, ◌∙◌}
use mathlib.Core.Bool.{Bool, true, false, not}
use mathlib.Core.List.{List, []}
use mathlib.Core.Logic.{◌↔◌, inl, ⊎_elim}
use Prim.Native.Nat.{ℕ}
use native.Mathlib.Omega.{arith}
use lib.Dec.{T, eqb}
use lib.ListN.{length}
use borrow.Author.Tests.{eq-eqb, eqb-true, not-false}
use Rattle.octets.specs.Bytes.{Bytes}
use Rattle.octets.proofs.Choice.{choice}
use Rattle.env.specs.Variable.{Variable, USERVAR, repeated}
use Rattle.env.specs.Read.{Reading, says, not_read, reading_of}
use Rattle.env.proofs.Sound.{Reads, reads}
use Rattle.profile.specs.Profile.{shape_of, Profile, enabled}
use Rattle.profile.specs.Table.{TableReading, profiles, table_refused, table_of, version_of, shape_in}
use Rattle.profile.specs.Theorems.{Ascending}
use Rattle.profile.proofs.Backs.{tables-written-back}
use Rattle.password_check.specs.Gives.{seed_length}
use Rattle.refusal.specs.declared.Refusal.{Refusal}
use Rattle.signon.specs.declared.Verdict.{Verdict}
use Rattle.signon.specs.declared.Verdict.TheVariants.{Panel, NotKnown, Disabled, Failed, Grant}
use Rattle.signon.specs.Attempt.{IBMRSEED, IBMSUBSPW, attempt}
use Rattle.signon.specs.Verdict.{verdict_of, answer_by, answer_of}
use Rattle.signon.specs.Theorems.{OneTold, NamedWith, Sentence, Session, Readable, InTableAndEnabled}
use Rattle.signon.specs.Theorems.{VerdictIsItsSentence, NoVerdictIfRefused, OnlyEnabledGranted}
use Rattle.signon.proofs.Lookups.{not-both}
use Rattle.signon.proofs.Sentences.{one-profile, sound}

refused-given : {A : Type 0} {n : Refusal} {v : Verdict} → ◌≡◌ {A = Result Verdict Refusal} (Err n) (Ok v) → A
refused-given e = let z : ◌≡◌ {A = ℕ} 0 1 = cc in absurd (omega arith)

given-same : {v w : Verdict} → ◌≡◌ {A = Result Verdict Refusal} (Ok v) (Ok w) → v ≡ w
given-same e = cc

-- no two sentences hold at once
module _ (seed : List ℕ) (eight : length seed ≡ seed_length) (version : ℕ) (ps : List Profile) (asc : Ascending (shape_of version) [] ps) (vs : List Variable) (once : repeated vs ≡ false) where
  panel-only : Sentence seed ps vs Panel → OneTold vs → ⊥
  panel-only s = ⊎_elim (λ t. not-both USERVAR IBMRSEED vs t.0 t.1 s.0) (λ t. not-both USERVAR IBMSUBSPW vs t.0 t.1 s.1)

  off-or-on : NamedWith (λ p. enabled p ≡ false) ps vs → NamedWith (λ p. T (enabled p)) ps vs → ⊥
  off-or-on a b =
      let same = one-profile seed eight version ps asc vs once b.user a.user b.profile a.profile b.named a.named in
      subst T (ap enabled same ∙ a.marked) b.marked

  granted-on : Sentence seed ps vs Grant → NamedWith (λ p. T (enabled p)) ps vs
  granted-on g = record { user = g.user; profile = g.profile; named = g.named; marked = g.enabled }

  only : (v w : Verdict) → Sentence seed ps vs v → Sentence seed ps vs w → v ≡ w
  only Panel Panel s t = refl
  only Panel NotKnown s t = absurd (panel-only s t.0)
  only Panel Disabled s t = absurd (panel-only s t.0)
  only Panel Failed s t = absurd (panel-only s t.0)
  only Panel Grant s t = absurd (panel-only s (inl (t.client_seed, t.seed_told)))
  only NotKnown Panel s t = absurd (panel-only t s.0)
  only NotKnown NotKnown s t = refl
  only NotKnown Disabled s t = absurd (s.1 _ _ t.1.named)
  only NotKnown Failed s t = absurd (s.1 _ _ t.1.0.named)
  only NotKnown Grant s t = absurd (s.1 _ _ t.named)
  only Disabled Panel s t = absurd (panel-only t s.0)
  only Disabled NotKnown s t = absurd (t.1 _ _ s.1.named)
  only Disabled Disabled s t = refl
  only Disabled Failed s t = absurd (off-or-on s.1 t.1.0)
  only Disabled Grant s t = absurd (off-or-on s.1 (granted-on t))
  only Failed Panel s t = absurd (panel-only t s.0)
  only Failed NotKnown s t = absurd (t.1 _ _ s.1.0.named)
  only Failed Disabled s t = absurd (off-or-on t.1 s.1.0)
  only Failed Failed s t = refl
  only Failed Grant s t = absurd (s.1.1 t)
  only Grant Panel s t = absurd (panel-only t (inl (s.client_seed, s.seed_told)))
  only Grant NotKnown s t = absurd (t.1 _ _ s.named)
  only Grant Disabled s t = absurd (off-or-on t.1 (granted-on s))
  only Grant Failed s t = absurd (t.1.1 s)
  only Grant Grant s t = refl

  pub given-exactly : (v : Verdict) → (verdict_of (attempt seed ps vs) ≡ v) ↔ Sentence seed ps vs v
  given-exactly v = (
    λ e. subst (Sentence seed ps vs) e (sound seed eight version ps asc vs once),
    λ s. only (verdict_of (attempt seed ps vs)) v (sound seed eight version ps asc vs once) s,
  )

  pub granted-all : Sentence seed ps vs Grant → InTableAndEnabled ps vs
  granted-all g = record {
    one = granted-on g;
    every = λ user p n. subst (λ q. T (enabled q)) (one-profile seed eight version ps asc vs once g.user user g.profile p g.named n) g.enabled;
  }

-- what is read of a table and a payload
module _ (seed table payload : List ℕ) (ps : List Profile) (vs : List Variable) (bytes : Bytes table) (r : Session seed table payload ps vs) where
  ascending : Ascending (shape_in table) [] ps
  ascending = (tables-written-back table ps bytes r.table_read).ascending

  distinct : repeated vs ≡ false
  distinct = (subst Reads r.payload_read (reads payload)).once

  answered : answer_of seed table payload ≡ Ok (verdict_of (attempt seed ps vs))
  unfolding answer_of answer_by
  answered = rw (eq-eqb (length seed) seed_length r.seed_of_eight, r.table_read, r.payload_read)

  exactly : (v : Verdict) → (answer_of seed table payload ≡ Ok v) ↔ Sentence seed ps vs v
  exactly v =
      let d = given-exactly seed r.seed_of_eight (version_of table) ps ascending vs distinct v in (
        λ e. let same : verdict_of (attempt seed ps vs) ≡ v = given-same (sym answered ∙ e) in d.0 same,
        λ s. answered ∙ ap Ok (d.1 s),
      )

  granted-only : answer_of seed table payload ≡ Ok Grant → InTableAndEnabled ps vs
  granted-only e = granted-all seed r.seed_of_eight (version_of table) ps ascending vs distinct ((exactly Grant).0 e)

pub verdict-is-its-sentence : VerdictIsItsSentence
verdict-is-its-sentence seed table payload ps vs bytes r v = exactly seed table payload ps vs bytes r v

pub only-enabled-granted : OnlyEnabledGranted
only-enabled-granted seed table payload ps vs bytes r e = granted-only seed table payload ps vs bytes r e

-- a verdict is given where nothing is refused
readable-by : (seed table payload : List ℕ) (v : Verdict) (t : TableReading) (q : Reading) → length seed ≡ seed_length → table_of table ≡ t → reading_of payload ≡ q
    → answer_by seed t q ≡ Ok v → Readable seed table payload
unfolding answer_by
readable-by seed table payload v (table_refused n) q eight et eq e = refused-given e
readable-by seed table payload v (profiles ps) (not_read n) eight et eq e = refused-given e
readable-by seed table payload v (profiles ps) (says first vs) eight et eq e =
    record { ps = ps; vs = vs; read = record { seed_of_eight = eight; table_read = et; first = first; payload_read = eq } }

pub no-verdict-if-refused : NoVerdictIfRefused
unfolding answer_of
no-verdict-if-refused seed table payload v =
    choice (λ a. a ≡ Ok v → Readable seed table payload) (not (eqb (length seed) seed_length))
    (λ _ e. refused-given e)
    (λ t e. readable-by seed table payload v (table_of table) (reading_of payload) (eqb-true (length seed) seed_length (not-false _ t)) refl refl e)
