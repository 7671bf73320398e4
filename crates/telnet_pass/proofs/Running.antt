-- A turn at a place of a fragment: the loop's equation after it, by what is to be done with the byte. Assumes nothing.
use Rattle.std.specs.Prelude.{Option}
use mathlib.Core.Path.{◌≡◌, sym, ap, ◌∙◌}
use mathlib.Core.List.{List, [], ◌∷◌, ◌++◌, append-nil, append_assoc}
use Prim.Native.Nat.{ℕ, suc, ◌+◌, ◌≤◌, ◌<◌}
use native.Mathlib.Nat.{add-zero, zero-add}
use native.Mathlib.Numerals.{add-one}
use native.Mathlib.Omega.{arith}
use lib.ListN.{length, get_or, take, drop, set, take-append-drop, drop_of_length-le}
use lib.Seq.{length-take-le, take-suc-set, drop-set-lt, drop-drop}
use Rattle.telnet.specs.declared.Kind.{Kind}
use Rattle.telnet_fragments.specs.declared.Stage.{Stage}
use Rattle.telnet_stage.specs.declared.Act.{Act}
use Rattle.telnet_stage.specs.declared.Act.TheVariants.{Waits, Gives, Keeps, Stops}
use Rattle.telnet_stage.specs.declared.Turn.{Turn}
use Rattle.telnet_pass.specs.declared.Run.{Run}
use Rattle.telnet_fragments.specs.Call.{Call, call, given, onward}
use Rattle.telnet_fragments.specs.Promise.{standing, happened}
use Rattle.telnet_stage.specs.Turn.{turn_of}
use Rattle.telnet_stage.proofs.Turning.{after, turn-found}
use Rattle.telnet_pass.specs.Run.{Ran}
use Rattle.octets.specs.Lent.{overwrite}
use Rattle.octets.proofs.Front.{at_front}
use Rattle.octets.proofs.Overwrite.{overwrite-front}

-- what was given before, in front of what is given from here on
abbrev pub ahead : ℕ → List ℕ → Call → Call
ahead i x c = call (x ++ c.run) c.event (i + c.taken) c.mode

pub ahead-onward : (i : ℕ) (x y : List ℕ) (c : Call) → ahead i x (onward y c) ≡ ahead (i + 1) (x ++ y) c
ahead-onward i x y c =
    let e : i + suc c.taken ≡ i + 1 + c.taken = omega arith in
    rw (e, append_assoc)

pub ahead-still : (i : ℕ) (x : List ℕ) (c : Call) → ahead i x (onward [] c) ≡ ahead (i + 1) x c
ahead-still i x c =
    let e : i + suc c.taken ≡ i + 1 + c.taken = omega arith in
    rw e

-- data stands at the front of a buffer that is else as it was
pub stands-front : (out out₀ : List ℕ) (d : ℕ) → d ≤ length out → drop d out ≡ drop d out₀ → out ≡ overwrite out₀ 0 (take d out)
stands-front out out₀ d h e =
    sym (rw (overwrite-front out₀ (take d out), length-take-le d out h, ← e) (take-append-drop d out))

pub ahead_none : (c : Call) → ahead 0 [] c ≡ c
ahead_none c = rw zero-add

-- a turn at place i of s, where the calls' data so far is x and all of it comes to `whole`
module _ (s : List ℕ) (i : ℕ) (at : Stage) (n : ℕ) (p : List ℕ) (x : List ℕ) (whole : Call) (inv : ahead i x (given (standing at n p) (drop i s)) ≡ whole) where
  module _ (t : Turn) (h : i < length s) (l : length p ≡ 1024) (e : t ≡ turn_of at n (get_or s i 0)) where
    here : (a : Act) → t.act ≡ a → ahead i x (after a t.stage t.count n p (get_or s i 0) (drop (i + 1) s)) ≡ whole
    here a k =
        ap (ahead i x) (sym (ap (given (standing at n p)) (at_front s i h) ∙ turn-found at n p (get_or s i 0) (drop (i + 1) s) t a l e k)) ∙ inv

    pub waits-on : t.act ≡ Waits → ahead (i + 1) x (given (standing t.stage t.count p) (drop (i + 1) s)) ≡ whole
    unfolding after
    waits-on k = sym (ahead-still i x (given (standing t.stage t.count p) (drop (i + 1) s))) ∙ here Waits k

    pub gives-on : t.act ≡ Gives → ahead (i + 1) (x ++ get_or s i 0 ∷ []) (given (standing t.stage n p) (drop (i + 1) s)) ≡ whole
    unfolding after
    gives-on k = sym (ahead-onward i x (get_or s i 0 ∷ []) (given (standing t.stage n p) (drop (i + 1) s))) ∙ here Gives k

    pub keeps_on : t.act ≡ Keeps → ahead (i + 1) x (given (standing t.stage (n + 1) (set p n (get_or s i 0))) (drop (i + 1) s)) ≡ whole
    unfolding after
    keeps_on k = sym (ahead-still i x (given (standing t.stage (n + 1) (set p n (get_or s i 0))) (drop (i + 1) s))) ∙ here Keeps k

    pub stops-on : (k : Option Kind) → t.act ≡ Stops k → call x (happened k (take n p)) (i + 1) (standing t.stage n p) ≡ whole
    unfolding after
    stops-on k f = rw append-nil at (here (Stops k) f)

  pub ends_on : length s ≤ i → call x [] i (standing at n p) ≡ whole
  unfolding given
  ends_on h = rw (drop_of_length-le s h, append-nil, add-zero) at inv

-- a data byte put after the data
pub one_more : (out out₀ : List ℕ) (d b : ℕ) → d < length out → drop d out ≡ drop d out₀
    → (take (d + 1) (set out d b) ≡ take d out ++ b ∷ []) × (drop (d + 1) (set out d b) ≡ drop (d + 1) out₀)
one_more out out₀ d b h e = (
  rw add-one (take-suc-set out d b h),
  drop-set-lt (d + 1) out d b (omega arith) ∙ sym (drop-drop 1 d out) ∙ ap (drop 1) e ∙ drop-drop 1 d out₀,
)

pub was-ran : (s : Stage) (n : ℕ) (p bs out : List ℕ) (r : Run) (p' out' : List ℕ) → r.length ≤ length out' → drop r.length out' ≡ drop r.length out → r.length ≤ length bs → length p' ≡ 1024
    → call (take r.length out') (happened r.kind (take r.count p')) r.taken (standing r.stage r.count p') ≡ given (standing s n p) bs
    → Ran s n p bs out r p' out'
was-ran s n p bs out r p' out' h k w l e =
    record {
      data_is = stands-front out' out r.length h k ∙ ap (λ (c : Call). overwrite out 0 c.run) e;
      length-is = sym (length-take-le r.length out' h) ∙ ap (λ (c : Call). length c.run) e;
      taken_is = ap (λ (c : Call). c.taken) e;
      event-is = ap (λ (c : Call). c.event) e;
      mode-is = ap (λ (c : Call). c.mode) e;
      short-is = w;
      kept-is = l;
    }
