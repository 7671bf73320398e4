-- What is at the front of bytes is refused by 1, 2, 3 or 6: what holds of these four holds of the refusal. Assumes
-- nothing.
use mathlib.Core.List.{List, [], ◌∷◌}
use Prim.Native.Nat.{ℕ}
use lib.Dec.{eqb, ltb}
use lib.ListN.{length, drop}
use Rattle.octets.proofs.Choice.{choice}
use Rattle.refusal.specs.declared.Refusal.{Refusal}
use Rattle.refusal.specs.declared.Refusal.TheVariants.{CutShort, Undoubled, PayloadTooLong, BadCommand}
use Rattle.telnet.specs.declared.Lead.{Lead}
use Rattle.telnet.specs.declared.Lead.TheVariants.{Faulty, Opens, Negotiates, Simple}
use Rattle.telnet.specs.Event.{lead, payload_limit, se}
use Rattle.telnet.specs.Write.{doubled}
use Rattle.telnet.specs.Read.{Front, no_event, found, refused, data_run, closed, after_sb, after_verb, after_lead, after_iac, run_or, event_of}

module _ (P : Refusal → Type 0) where
  abbrev pub FrontBy : Front → Type 0
  FrontBy no_event = Unit {0}
  FrontBy (found e) = Unit {0}
  FrontBy (refused why) = P why

  module _ (one : P CutShort) (two : P Undoubled) (three : P PayloadTooLong) (six : P BadCommand) where
    closed-by : (o : ℕ) (p bs : List ℕ) → FrontBy (closed o p bs)
    unfolding closed
    closed-by o p [] = one
    closed-by o p (x ∷ []) = one
    closed-by o p (x ∷ c ∷ rest) = choice FrontBy (eqb c se) (λ _. tt) (λ _. two)

    sb-by : (bs : List ℕ) → FrontBy (after_sb bs)
    unfolding after_sb
    sb-by [] = one
    sb-by (o ∷ bs) =
        choice FrontBy (ltb payload_limit (length (data_run bs))) (λ _. three)
        (λ _. closed-by o (data_run bs) (drop (length (doubled (data_run bs))) bs))

    lead-by : (l : Lead) (c : ℕ) (bs : List ℕ) → FrontBy (after_lead l c bs)
    unfolding after_lead after_verb
    lead-by Faulty c bs = six
    lead-by Opens c bs = sb-by bs
    lead-by (Negotiates v) c [] = one
    lead-by (Negotiates v) c (o ∷ bs) = tt
    lead-by Simple c bs = tt

    iac-by : (bs : List ℕ) → FrontBy (after_iac bs)
    unfolding after_iac
    iac-by [] = one
    iac-by (c ∷ bs) = lead-by (lead c) c bs

    run_by : (ds : List ℕ) (f : Front) → FrontBy f → FrontBy (run_or ds f)
    unfolding run_or
    run_by [] f t = t
    run_by (d ∷ ds) f t = tt

    pub front_by : (bs : List ℕ) → FrontBy (event_of bs)
    unfolding event_of
    front_by [] = tt
    front_by (b ∷ bs) = run_by (data_run (b ∷ bs)) (after_iac bs) (iac-by bs)
