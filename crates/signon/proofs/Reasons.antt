-- The reason that is given is the first that holds, and its verdict is the one that is given (`specs/ReasonTheorems.antt`).
-- Assumes nothing.
use Rattle.std.specs.Prelude.{if◌then◌else◌, Result, Ok, Err}
use mathlib.Core.Path.{◌≡◌, refl, sym, ap, subst, ◌∙◌}
use mathlib.Core.Bool.{Bool, true, false, not, ◌&&◌, ◌||◌}
use mathlib.Core.List.{List, [], ◌∷◌, ◌++◌, map}
use mathlib.Core.Logic.{◌↔◌, ◌⊎◌, ⊎_elim}
use Prim.Native.Nat.{ℕ}
use native.Mathlib.Omega.{arith}
use lib.Dec.{T, eqb}
use lib.ListN.{length}
use mir.Facts.{and_yes, or_yes}
use denote.Floats.{passes, is_true}
use borrow.Author.Tests.{eq-eqb, not-false}
use Rattle.octets.proofs.Choice.{choice, choice₂}
use Rattle.env.specs.Variable.{Lookup, absent, present, value_or}
use Rattle.env.specs.Read.{Reading, says, not_read, reading_of}
use Rattle.names.specs.Name.{is_name, profile_limit}
use Rattle.profile.specs.Profile.{Profile, enabled, des_allowed, stored_des, stored_sha}
use Rattle.profile.specs.Table.{TableReading, profiles, table_refused, table_of}
use Rattle.profile.specs.Lookup.{ProfileLookup, no_profile, one_profile}
use Rattle.password_sha.specs.Sha.{is_password}
use Rattle.password_check.specs.Gives.{des_length, seed_length, gives_clear, gives_des, gives_sha}
use Rattle.password_check.proofs.Own.{only-its-lengths}
use Rattle.refusal.specs.declared.Refusal.{Refusal}
use Rattle.signon.specs.declared.Verdict.{Verdict}
use Rattle.signon.specs.declared.Verdict.TheVariants.{Failed, Grant}
use Rattle.signon.specs.declared.Reason.{Reason}
use Rattle.signon.specs.declared.Reason.TheVariants.{PanelAskedFor, NoUser, BadName, NotInTheTable, Disabled, SeedVariableMissing}
use Rattle.signon.specs.declared.Reason.TheVariants.{SubstituteMissing, SeedLength, SubstituteLength, DesNotAllowed}
use Rattle.signon.specs.declared.Reason.TheVariants.{ClearPasswordMalformed, TokenDiffers, Granted}
use Rattle.signon.specs.Attempt.{Attempt, attempt, is_present, is_clear, GrantRule, grant_rules, one_holds, is_clear_password, is_des_substitute, is_sha_substitute}
use Rattle.signon.specs.Verdict.{◌gives◌, first_of, grant_conditions, profile_conditions, conditions, verdict_of, answer_by, answer_of}
use Rattle.signon.specs.Reason.{verdict_for, Cause, ◌because◌, first_cause, bad_seed_length, bad_substitute_length, des_not_allowed, clear_password_malformed}
use Rattle.signon.specs.Reason.{token_gives, is_granted, early_causes, offer_causes, profile_causes, causes, reason_of, explain_by, explain_of, answer_for}
use Rattle.signon.specs.ReasonTheorems.{NoneHolds, IsFirst, ReasonIsFirst, SomeCauseHolds, VerdictOfItsReason, GrantedExactly, joined, WordsInOrder}
use Rattle.signon.proofs.Rules.{clear-seed, not_yes}
use Rattle.signon.proofs.Verdicts.{verdict-is-its-sentence}

-- LISTS OF CAUSES

-- where one is the first, it is the one that is given
first-at : (before after : List Cause) (r other : Reason) → NoneHolds before → first_cause (before ++ (true because r) ∷ after) other ≡ r
unfolding first_cause
first-at [] after r other n = refl
first-at (c ∷ before) after r other n = rw n.0 (first-at before after r other n.1)

first-is : (cs : List Cause) (r other : Reason) → IsFirst cs r → first_cause cs other ≡ r
first-is cs r other f = ap (λ l. first_cause l other) f.cut ∙ first-at f.before f.after r other f.none_before

-- where some holds, the one that is given is the first
abbrev some_holds : List Cause → Bool
some_holds [] = false
some_holds (c ∷ cs) = c.holds || some_holds cs

is-first : (cs : List Cause) (other : Reason) → some_holds cs ≡ true → IsFirst cs (first_cause cs other)
unfolding first_cause
is-first [] other e = let z : ◌≡◌ {A = ℕ} 0 1 = cc in absurd (omega arith)
is-first (c ∷ cs) other e =
    choice (λ r. IsFirst (c ∷ cs) r) c.holds
    (λ yes. record { before = []; after = cs; cut = ap (λ b. (b because c.reason) ∷ cs) yes; none_before = tt })
    (λ no.
    let f = is-first cs other (sym (ap (λ b. b || some_holds cs) no) ∙ e) in
    record { before = c ∷ f.before; after = f.after; cut = ap (λ l. c ∷ l) f.cut; none_before = (no, f.none_before) })

-- WHAT IS OFFERED

-- the conditions for GRANT give it where one of the rules holds
one_more : (b t : Bool) (v : Verdict) → v ≡ (if t then Grant else Failed) → (if b then Grant else v) ≡ (if b || t then Grant else Failed)
one_more true t v e = refl
one_more false t v e = e

pub granted : (rules : List GrantRule) (p : Profile) (name server client offered : List ℕ)
    → first_of (map (λ rule. rule p name server client offered gives Grant) rules) Failed
    ≡ (if one_holds rules p name server client offered then Grant else Failed)
unfolding first_of one_holds
granted [] p name server client offered = refl
granted (rule ∷ rules) p name server client offered =
    one_more (rule p name server client offered) (one_holds rules p name server client offered) _ (granted rules p name server client offered)

-- a clear seed has a good length
pub clear-fits : (c : List ℕ) → T (is_clear c) → bad_seed_length c ≡ false
unfolding bad_seed_length
clear-fits c t = let Fits : List ℕ → Type 0 = λ l. bad_seed_length l ≡ false in ⊎_elim (λ e. subst Fits (sym e) refl) (λ e. subst Fits (sym e) refl) (clear-seed c t)

-- where the token gives the value, and DES is allowed for 8 bytes, a rule holds
a-rule : (clear eight allowed by_clear by_des by_sha : Bool) → (not clear && (eight && not allowed)) ≡ false
    → (if clear then by_clear else if eight then by_des else by_sha) ≡ true
    → ((clear && by_clear) || ((not clear && (allowed && by_des)) || ((not clear && by_sha) || false))) ≡ true
a-rule true eight allowed by_clear by_des by_sha d e = rw e
a-rule false true true by_clear by_des by_sha d e = rw e
a-rule false true false by_clear by_des by_sha d e = let z : ◌≡◌ {A = ℕ} 0 1 = cc in absurd (omega arith)
a-rule false false true by_clear true by_sha d e = refl
a-rule false false true by_clear false by_sha d e = rw e
a-rule false false false by_clear by_des by_sha d e = rw e

module _ (p : Profile) (name s c o : List ℕ) where
  pub gives-granted : des_not_allowed p c o ≡ false → not (token_gives p name s c o) ≡ false → one_holds grant_rules p name s c o ≡ true
  unfolding des_not_allowed token_gives one_holds is_clear_password is_des_substitute is_sha_substitute
  gives-granted d t =
      a-rule (is_clear c) (eqb (length o) des_length) (des_allowed p) (gives_clear (stored_sha p) name o) (gives_des (stored_des p) name s c o) (gives_sha (stored_sha p) name s c o)
      d (not-false _ t)

  -- no condition before "granted" holds of what is offered
  record Faultless : Type 0 where
    seed : bad_seed_length c ≡ false
    substitute : bad_substitute_length c o ≡ false
    des : des_not_allowed p c o ≡ false
    clear : clear_password_malformed c o ≡ false
    token : not (token_gives p name s c o) ≡ false

  is_word : T (gives_clear (stored_sha p) name o) → is_password o ≡ true
  unfolding gives_clear
  is_word t = is_true (is_password o) (and_yes (is_password o) _ (and_yes (is_name profile_limit name) _ t).1).0

  by-clear : T (is_clear_password p name s c o) → Faultless
  unfolding is_clear_password bad_seed_length bad_substitute_length des_not_allowed clear_password_malformed token_gives
  by-clear t =
      let a = and_yes (is_clear c) _ t in
      let clear = is_true (is_clear c) a.0 in
      record {
        seed = clear-fits c a.0;
        substitute = rw clear;
        des = rw clear;
        clear = rw (clear, is_word a.1);
        token = rw (clear, is_true (gives_clear (stored_sha p) name o) a.1);
      }

  by-des : T (is_des_substitute p name s c o) → Faultless
  unfolding is_des_substitute bad_seed_length bad_substitute_length des_not_allowed clear_password_malformed token_gives
  by-des t =
      let a = and_yes (not (is_clear c)) _ t in
      let b = and_yes (des_allowed p) _ a.1 in
      let clear = not_yes (is_clear c) a.0 in
      let given = is_true (gives_des (stored_des p) name s c o) b.1 in
      let n = (only-its-lengths.des (stored_des p) name s c o given).1.1 in
      record {
        seed = rw n.0;
        substitute = rw (clear, n.1);
        des = rw (clear, n.1, is_true (des_allowed p) b.0);
        clear = rw clear;
        token = rw (clear, n.1, given);
      }

  by-sha : T (is_sha_substitute p name s c o) → Faultless
  unfolding is_sha_substitute bad_seed_length bad_substitute_length des_not_allowed clear_password_malformed token_gives
  by-sha t =
      let a = and_yes (not (is_clear c)) _ t in
      let clear = not_yes (is_clear c) a.0 in
      let given = is_true (gives_sha (stored_sha p) name s c o) a.1 in
      let n = (only-its-lengths.sha (stored_sha p) name s c o given).1.1 in
      record {
        seed = rw n.0;
        substitute = rw (clear, n.1);
        des = rw (clear, n.1);
        clear = rw clear;
        token = rw (clear, n.1, given);
      }

  faultless : one_holds grant_rules p name s c o ≡ true → Faultless
  unfolding one_holds
  faultless e =
      ⊎_elim by-clear
      (λ d. ⊎_elim by-des (λ h. ⊎_elim by-sha (λ n. absurd n) (or_yes (is_sha_substitute p name s c o) false h)) (or_yes (is_des_substitute p name s c o) _ d))
      (or_yes (is_clear_password p name s c o) _ (passes (one_holds grant_rules p name s c o) e))

  -- the reason that what is offered gives, where both USERVARs are there
  abbrev offer_reason : Bool → Reason
  offer_reason granted =
      if bad_seed_length c then SeedLength
      else if bad_substitute_length c o then SubstituteLength
      else if des_not_allowed p c o then DesNotAllowed
      else if clear_password_malformed c o then ClearPasswordMalformed
      else if not (token_gives p name s c o) then TokenDiffers
      else if granted then Granted
      else TokenDiffers

  offer-verdict : (granted : Bool) → one_holds grant_rules p name s c o ≡ granted → (if granted then Grant else Failed) ≡ verdict_for (offer_reason granted)
  offer-verdict true e = let f = faultless e in rw (f.seed, f.substitute, f.des, f.clear, f.token)
  offer-verdict false e =
      let Fails : Reason → Type 0 = λ r. Failed ≡ verdict_for r in
      choice Fails (bad_seed_length c) (λ _. refl)
      (λ _. choice Fails (bad_substitute_length c o) (λ _. refl)
      (λ _. choice Fails (des_not_allowed p c o) (λ _. refl)
      (λ _. choice Fails (clear_password_malformed c o) (λ _. refl)
      (λ _. choice Fails (not (token_gives p name s c o)) (λ _. refl) (λ _. refl)))))

-- ATTEMPTS

abbrev at : List ℕ → (client_seed offered user : Lookup) → ProfileLookup → Attempt
at s cs of us pr = record { server_seed = s; client_seed = cs; offered = of; user = us; profile = pr }

offers : (s : List ℕ) (cs of us : Lookup) (p : Profile)
    → first_of (grant_conditions (at s cs of us (one_profile p))) Failed ≡ verdict_for (first_cause (offer_causes (at s cs of us (one_profile p))) TokenDiffers)
unfolding first_of grant_conditions first_cause offer_causes is_granted value_or
offers s absent of us p = refl
offers s (present c) absent us p = refl
offers s (present c) (present o) us p =
    granted grant_rules p (value_or [] us) s c o ∙ offer-verdict p (value_or [] us) s c o (one_holds grant_rules p (value_or [] us) s c o) refl

verdict-at : (s : List ℕ) (cs of us : Lookup) (pr : ProfileLookup) → verdict_of (at s cs of us pr) ≡ verdict_for (reason_of (at s cs of us pr))
unfolding verdict_of conditions profile_conditions first_of reason_of causes early_causes profile_causes first_cause
verdict-at s cs of us no_profile =
    let Same : Verdict → Reason → Type 0 = λ v r. v ≡ verdict_for r in
    choice₂ Same (not (is_present cs) && not (is_present of)) (λ _. refl)
    (λ _. choice₂ Same (not (is_present us)) (λ _. refl)
    (λ _. choice₂ Same (not (is_name profile_limit (value_or [] us))) (λ _. refl) (λ _. refl)))
verdict-at s cs of us (one_profile p) =
    let Same : Verdict → Reason → Type 0 = λ v r. v ≡ verdict_for r in
    choice₂ Same (not (is_present cs) && not (is_present of)) (λ _. refl)
    (λ _. choice₂ Same (not (is_present us)) (λ _. refl)
    (λ _. choice₂ Same (not (is_name profile_limit (value_or [] us))) (λ _. refl)
    (λ _. choice₂ Same (not (enabled p)) (λ _. refl) (λ _. offers s cs of us p))))

-- the verdict is the verdict of the reason
pub verdict-of-reason : (a : Attempt) → verdict_of a ≡ verdict_for (reason_of a)
verdict-of-reason a = verdict-at a.server_seed a.client_seed a.offered a.user a.profile

or_else : (a b : Bool) → (a ≡ false → b ≡ true) → (a || b) ≡ true
or_else true b f = refl
or_else false b f = f refl

some_at : (s : List ℕ) (cs of us : Lookup) (pr : ProfileLookup) → some_holds (causes (at s cs of us pr)) ≡ true
unfolding causes early_causes profile_causes offer_causes is_granted value_or
some_at s cs of us no_profile =
    or_else (not (is_present cs) && not (is_present of)) _
    (λ _. or_else (not (is_present us)) _ (λ _. or_else (not (is_name profile_limit (value_or [] us))) _ (λ _. refl)))
some_at s absent of us (one_profile p) =
    or_else (not (is_present of)) _
    (λ _. or_else (not (is_present us)) _
    (λ _. or_else (not (is_name profile_limit (value_or [] us))) _ (λ _. or_else (not (enabled p)) _ (λ _. refl))))
some_at s (present c) absent us (one_profile p) =
    or_else (not (is_present us)) _
    (λ _. or_else (not (is_name profile_limit (value_or [] us))) _ (λ _. or_else (not (enabled p)) _ (λ _. refl)))
some_at s (present c) (present o) us (one_profile p) =
    or_else (not (is_present us)) _
    (λ _. or_else (not (is_name profile_limit (value_or [] us))) _
    (λ _. or_else (not (enabled p)) _
    (λ _. or_else (bad_seed_length c) _
    (λ _. or_else (bad_substitute_length c o) _
    (λ _. or_else (des_not_allowed p c o) _
    (λ d. or_else (clear_password_malformed c o) _
    (λ _. or_else (not (token_gives p (value_or [] us) s c o)) _
    (λ t. ap (λ b. b || false) (gives-granted p (value_or [] us) s c o d t)))))))))

some : (a : Attempt) → some_holds (causes a) ≡ true
some a = some_at a.server_seed a.client_seed a.offered a.user a.profile

-- THE THEOREMS

pub some-cause-holds : SomeCauseHolds
some-cause-holds a = (first_cause (causes a) TokenDiffers, is-first (causes a) TokenDiffers (some a))

answered : (seed : List ℕ) (t : TableReading) (q : Reading) → answer_by seed t q ≡ answer_for (explain_by seed t q)
unfolding answer_by explain_by
answered seed (table_refused n) q = refl
answered seed (profiles ps) (not_read n) = refl
answered seed (profiles ps) (says first vs) = ap Ok (verdict-of-reason (attempt seed ps vs))

pub verdict-of-its-reason : VerdictOfItsReason
unfolding answer_of explain_of
verdict-of-its-reason seed table payload =
    choice₂ (λ a x. a ≡ answer_for x) (not (eqb (length seed) seed_length)) (λ _. refl) (λ _. answered seed (table_of table) (reading_of payload))

because-same : {r q : Reason} → ◌≡◌ {A = Result Reason Refusal} (Ok r) (Ok q) → r ≡ q
because-same e = cc

pub reason-is-first : ReasonIsFirst
unfolding explain_of explain_by reason_of
reason-is-first seed table payload ps vs r q =
    let given : explain_of seed table payload ≡ Ok (reason_of (attempt seed ps vs)) =
    rw (eq-eqb (length seed) seed_length r.seed_of_eight, r.table_read, r.payload_read) in
    let cs = causes (attempt seed ps vs) in (
      λ e. subst (IsFirst cs) (because-same (sym given ∙ e)) (is-first cs TokenDiffers (some (attempt seed ps vs))),
      λ f. given ∙ ap Ok (first-is cs q TokenDiffers f),
    )

-- no other reason belongs to GRANT
only-granted : (x : Result Reason Refusal) → answer_for x ≡ Ok Grant → x ≡ Ok Granted
only-granted (Ok PanelAskedFor) e = let z : ◌≡◌ {A = ℕ} 0 1 = cc in absurd (omega arith)
only-granted (Ok NoUser) e = let z : ◌≡◌ {A = ℕ} 0 1 = cc in absurd (omega arith)
only-granted (Ok BadName) e = let z : ◌≡◌ {A = ℕ} 0 1 = cc in absurd (omega arith)
only-granted (Ok NotInTheTable) e = let z : ◌≡◌ {A = ℕ} 0 1 = cc in absurd (omega arith)
only-granted (Ok Disabled) e = let z : ◌≡◌ {A = ℕ} 0 1 = cc in absurd (omega arith)
only-granted (Ok SeedVariableMissing) e = let z : ◌≡◌ {A = ℕ} 0 1 = cc in absurd (omega arith)
only-granted (Ok SubstituteMissing) e = let z : ◌≡◌ {A = ℕ} 0 1 = cc in absurd (omega arith)
only-granted (Ok SeedLength) e = let z : ◌≡◌ {A = ℕ} 0 1 = cc in absurd (omega arith)
only-granted (Ok SubstituteLength) e = let z : ◌≡◌ {A = ℕ} 0 1 = cc in absurd (omega arith)
only-granted (Ok DesNotAllowed) e = let z : ◌≡◌ {A = ℕ} 0 1 = cc in absurd (omega arith)
only-granted (Ok ClearPasswordMalformed) e = let z : ◌≡◌ {A = ℕ} 0 1 = cc in absurd (omega arith)
only-granted (Ok TokenDiffers) e = let z : ◌≡◌ {A = ℕ} 0 1 = cc in absurd (omega arith)
only-granted (Ok Granted) e = refl
only-granted (Err n) e = let z : ◌≡◌ {A = ℕ} 0 1 = cc in absurd (omega arith)

grant-exactly : (seed table payload : List ℕ) → (explain_of seed table payload ≡ Ok Granted) ↔ (answer_of seed table payload ≡ Ok Grant)
grant-exactly seed table payload =
    let same = verdict-of-its-reason seed table payload in
    (λ e. same ∙ ap answer_for e, λ e. only-granted (explain_of seed table payload) (sym same ∙ e))

pub granted-exactly : GrantedExactly
granted-exactly = record {
  grant = grant-exactly;
  sentence = λ seed table payload ps vs bytes r.
      let g = grant-exactly seed table payload in
      let v = verdict-is-its-sentence seed table payload ps vs bytes r Grant in
      (λ e. v.0 (g.0 e), λ s. g.1 (v.1 s));
}

pub words-in-order : WordsInOrder
unfolding causes early_causes profile_causes offer_causes joined
words-in-order a = refl
