-- How calls stand and close, by how the whole reading ends (`closes-alike`), and that two cuts of one stream are alike
-- (`however-cut`). Assumes nothing.
use mathlib.Core.Path.{◌≡◌, refl, sym, ap, ◌∙◌}
use mathlib.Core.Bool.{true}
use mathlib.Core.Logic.{◌↔◌}
use mathlib.Core.List.{List, []}
use Prim.Native.Nat.{ℕ}
use lib.ListN.{take}
use Rattle.telnet.specs.Whole.{Mode, data', Ending, well, refusal, Reading, reading, stops}
use Rattle.telnet_fragments.specs.declared.Fault.{Fault}
use Rattle.telnet_fragments.specs.declared.Fault.TheVariants.{Undoubled, TooLong, BadCommand}
use Rattle.telnet_fragments.specs.declared.Stage.{Stage}
use Rattle.telnet_fragments.specs.declared.Stage.TheVariants.{Data, IacSeen, Choosing, Opening, Payload, Closing, Failed}
use Rattle.telnet_fragments.specs.declared.Reader.{Reader}
use Rattle.telnet_fragments.specs.Call.{rested}
use Rattle.telnet_fragments.specs.Promise.{fault_refusal, standing, mode_of, fresh_reader, feed_of, closes, close_of}
use Rattle.telnet_fragments.specs.Chain.{Made, found, took_all, last_reader, last_kept, end_mode}
use Rattle.telnet_fragments.specs.Theorems.{mode_after, is_waiting, ClosesAlike, HoweverCut, Follows}
use Rattle.telnet_fragments.proofs.Chaining.{takes-the-stream, ends-in-its-mode}
use Rattle.refusal.specs.declared.Refusal.TheVariants.{CutShort}

-- how a reader's mode ends, by its stage
abbrev stage_ending : Stage → Ending
stage_ending Data = well
stage_ending IacSeen = refusal CutShort
stage_ending (Choosing v) = refusal CutShort
stage_ending Opening = refusal CutShort
stage_ending (Payload o) = refusal CutShort
stage_ending (Closing o) = refusal CutShort
stage_ending (Failed f) = refusal (fault_refusal f)

stage-ends : (s : Stage) (n : ℕ) (kept : List ℕ) → (stops (standing s n kept)).ending ≡ stage_ending s
unfolding stops standing
stage-ends Data n kept = refl
stage-ends IacSeen n kept = refl
stage-ends (Choosing v) n kept = refl
stage-ends Opening n kept = refl
stage-ends (Payload o) n kept = refl
stage-ends (Closing o) n kept = refl
stage-ends (Failed f) n kept = refl

-- a fault is no other refusal of a reader
pub fault-not-cut : (f : Fault) → fault_refusal f ≡ CutShort → ⊥
fault-not-cut Undoubled e = cc
fault-not-cut TooLong e = cc
fault-not-cut BadCommand e = cc

fault-back : (f g : Fault) → fault_refusal f ≡ fault_refusal g → f ≡ g
fault-back Undoubled Undoubled e = refl
fault-back Undoubled TooLong e = cc
fault-back Undoubled BadCommand e = cc
fault-back TooLong Undoubled e = cc
fault-back TooLong TooLong e = refl
fault-back TooLong BadCommand e = cc
fault-back BadCommand Undoubled e = cc
fault-back BadCommand TooLong e = cc
fault-back BadCommand BadCommand e = refl

rest-stage : (s : Stage) → stage_ending s ≡ well → s ≡ Data
rest-stage Data e = refl
rest-stage IacSeen e = cc
rest-stage (Choosing v) e = cc
rest-stage Opening e = cc
rest-stage (Payload o) e = cc
rest-stage (Closing o) e = cc
rest-stage (Failed f) e = cc

waiting-stage : (s : Stage) → stage_ending s ≡ refusal CutShort → is_waiting s ≡ true
unfolding is_waiting
waiting-stage Data e = cc
waiting-stage IacSeen e = refl
waiting-stage (Choosing v) e = refl
waiting-stage Opening e = refl
waiting-stage (Payload o) e = refl
waiting-stage (Closing o) e = refl
waiting-stage (Failed f) e = absurd (fault-not-cut f cc)

fault-stage : (s : Stage) (f : Fault) → stage_ending s ≡ refusal (fault_refusal f) → s ≡ Failed f
fault-stage Data f e = cc
fault-stage IacSeen f e = absurd (fault-not-cut f cc)
fault-stage (Choosing v) f e = absurd (fault-not-cut f cc)
fault-stage Opening f e = absurd (fault-not-cut f cc)
fault-stage (Payload o) f e = absurd (fault-not-cut f cc)
fault-stage (Closing o) f e = absurd (fault-not-cut f cc)
fault-stage (Failed g) f e = ap Failed (fault-back g f cc)

waiting-ends : (s : Stage) → is_waiting s ≡ true → stage_ending s ≡ refusal CutShort
unfolding is_waiting
waiting-ends Data e = cc
waiting-ends IacSeen e = refl
waiting-ends (Choosing v) e = refl
waiting-ends Opening e = refl
waiting-ends (Payload o) e = refl
waiting-ends (Closing o) e = refl
waiting-ends (Failed f) e = cc

-- a reader whose mode ends as `how`
module _ (r : Reader) (kept : List ℕ) (how : Ending) (is : (stops (mode_of r kept)).ending ≡ how) where
  ends-so : stage_ending r.stage ≡ how
  ends-so = sym (stage-ends r.stage r.count kept) ∙ is

  rests : (r.stage ≡ Data) ↔ (how ≡ well)
  rests = (
    λ e. sym ends-so ∙ ap stage_ending e,
    λ e. rest-stage r.stage (ends-so ∙ e),
  )

  waits : (is_waiting r.stage ≡ true) ↔ (how ≡ refusal CutShort)
  waits = (
    λ e. sym ends-so ∙ waiting-ends r.stage e,
    λ e. waiting-stage r.stage (ends-so ∙ e),
  )

  fails : (f : Fault) → (r.stage ≡ Failed f) ↔ (how ≡ refusal (fault_refusal f))
  fails f = (
    λ e. sym ends-so ∙ ap stage_ending e,
    λ e. fault-stage r.stage f (ends-so ∙ e),
  )

pub closes-alike : ClosesAlike
unfolding close_of
closes-alike kept bs cs ch =
    let r = last_reader fresh_reader cs in
    let k = last_kept kept cs in
    let how = (reading (take (took_all cs) bs)).ending in
    let is = ap (λ (x : Reading). x.ending) (takes-the-stream kept bs cs ch) in
    record {
      at_rest = rests r k how is;
      waiting = waits r k how is;
      fault = fails r k how is;
      closing = λ c e. e k ∙ ap closes is;
    }

pub however-cut : HoweverCut
however-cut kept₁ kept₂ bs cs₁ cs₂ ch₁ ch₂ same =
    let cut : take (took_all cs₁) bs ≡ take (took_all cs₂) bs = ap (λ (n : ℕ). take n bs) same in
    let mode : end_mode kept₁ cs₁ ≡ end_mode kept₂ cs₂ =
    ends-in-its-mode kept₁ bs cs₁ ch₁ ∙ ap (λ (l : List ℕ). rested (mode_after (data' []) l)) cut ∙ sym (ends-in-its-mode kept₂ bs cs₂ ch₂) in
    let at₁ : (c : Made) → Follows kept₁ cs₁ c → found c ≡ end_mode kept₁ cs₁ =
    λ c f. ap (λ (x : Reader). mode_of x c.kept) f.0 ∙ ap (mode_of (last_reader fresh_reader cs₁)) f.1 in
    let at₂ : (c : Made) → Follows kept₂ cs₂ c → found c ≡ end_mode kept₂ cs₂ =
    λ c f. ap (λ (x : Reader). mode_of x c.kept) f.0 ∙ ap (mode_of (last_reader fresh_reader cs₂)) f.1 in
    record {
      gave-alike = ap (λ (x : Reading). x.events) (takes-the-stream kept₁ bs cs₁ ch₁ ∙ ap reading cut ∙ sym (takes-the-stream kept₂ bs cs₂ ch₂));
      close-alike = λ c₁ c₂ e₁ e₂. e₁ (last_kept kept₁ cs₁) ∙ ap close_of mode ∙ sym (e₂ (last_kept kept₂ cs₂));
      go-on-alike = λ c₁ c₂ f₁ f₂ b e.
          f₁.2.0
          ∙ ap (λ (m : Mode). feed_of m c₁.fragment c₁.room) (at₁ c₁ f₁ ∙ mode ∙ sym (at₂ c₂ f₂))
          ∙ ap (λ (l : List ℕ). feed_of (found c₂) l c₁.room) b
          ∙ ap (feed_of (found c₂) c₂.fragment) e
          ∙ sym f₂.2.0;
    }
