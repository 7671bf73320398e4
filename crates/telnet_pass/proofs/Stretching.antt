-- A stretch of data, or of a payload, is taken at once: what `telnet_data::copy_run` copies is what the steps of its bytes give. Assumes nothing.
use mathlib.Core.Path.{◌≡◌, refl, sym, ap, ◌∙◌}
use mathlib.Core.Bool.{Bool, true, false}
use mathlib.Core.List.{List, [], ◌∷◌, ◌++◌, append-nil, append_assoc}
use Prim.Native.Nat.{ℕ, suc, ◌+◌, ◌-◌, ◌≤◌, ◌<◌}
use native.Mathlib.Omega.{arith}
use lib.Dec.{eqb, ltb}
use lib.ListN.{length, get_or, take, drop, set, length-append, length-drop, length-take, length-set, take-append-drop}
use lib.Seq.{drop-drop, drop-set-lt, drop-append_seam}
use borrow.Author.Tests.{lt-ltb}
use Rattle.telnet.specs.Event.{iac, payload_limit}
use Rattle.telnet.specs.Write.{doubled}
use Rattle.telnet.specs.Read.{data_run}
use Rattle.telnet.specs.Whole.{data', payload, step_byte, grown}
use Rattle.telnet.proofs.Stretch.{doubled-longer, doubled-append, stretch}
use Rattle.telnet_data.specs.declared.Extent.{Extent}
use Rattle.telnet_data.specs.Promise.{copied, copy_run}
use Rattle.telnet_fragments.specs.declared.Stage.{Stage}
use Rattle.telnet_fragments.specs.declared.Stage.TheVariants.{Data}
use Rattle.telnet_stage.specs.declared.Act.TheVariants.{Gives, Keeps}
use Rattle.telnet_stage.specs.declared.Turn.{Turn}
use Rattle.telnet_fragments.specs.Call.{Call, run_of, rested, has_failed, ends, takes, given, onward}
use Rattle.telnet_fragments.specs.Promise.{standing}
use Rattle.telnet_stage.specs.Turn.{turn_of}
use Rattle.telnet_stage.proofs.Turning.{turn_is}
use Rattle.telnet_pass.proofs.Running.{ahead, ahead_none, gives-on, keeps_on, one_more}
use Rattle.octets.specs.Lent.{Outcome, outcome, overwrite}
use Rattle.octets.proofs.Overwrite.{length-overwrite, take-written, drop-written}

ahead-on : (y : List ℕ) (n : ℕ) (d : List ℕ) (c : Call) → onward y (ahead n d c) ≡ ahead (suc n) (y ++ d) c
ahead-on y n d c =
    let e : suc (n + c.taken) ≡ suc n + c.taken = omega arith in
    rw (e, append_assoc)

ahead-ahead : (i j : ℕ) (x y : List ℕ) (c : Call) → ahead i x (ahead j y c) ≡ ahead (i + j) (x ++ y) c
ahead-ahead i j x y c =
    let e : i + (j + c.taken) ≡ i + j + c.taken = omega arith in
    rw (e, append_assoc)

-- data, each 255 doubled, gives itself
given-data : (d rest : List ℕ) → given (data' []) (doubled d ++ rest) ≡ ahead (length (doubled d)) d (given (data' []) rest)
unfolding given takes ends has_failed run_of rested step_byte doubled
given-data [] rest = sym (ahead_none (given (data' []) rest))
given-data (b ∷ d) rest = go (eqb b iac) refl (given-data d rest)
  where
    c : Call
    c = given (data' []) rest

    n : ℕ
    n = length (doubled d)

    go : (t : Bool) → eqb b iac ≡ t → given (data' []) (doubled d ++ rest) ≡ ahead n d c
        → given (data' []) (doubled (b ∷ d) ++ rest) ≡ ahead (length (doubled (b ∷ d))) (b ∷ d) c
    go true e ih =
        rw (e, e, e) (ap (λ (k : Call). onward [] (onward (b ∷ []) k)) ih ∙ ap (onward []) (ahead-on (b ∷ []) n d c) ∙ ahead-on [] (suc n) (b ∷ d) c)
    go false e ih = rw (e, e) (ap (onward (b ∷ [])) ih ∙ ahead-on (b ∷ []) n d c)

-- and in a payload it is kept, as long as there is room
given-payload : (o : ℕ) (d p rest : List ℕ) → length p + length d ≤ payload_limit
    → given (payload o p) (doubled d ++ rest) ≡ ahead (length (doubled d)) [] (given (payload o (p ++ d)) rest)
unfolding given takes ends has_failed run_of rested step_byte grown doubled
given-payload o [] p rest h = rw append-nil (sym (ahead_none (given (payload o p) rest)))
given-payload o (b ∷ d) p rest h =
    go (eqb b iac) refl (given-payload o d (p ++ b ∷ []) rest (rw length-append (omega arith)))
  where
    q : List ℕ
    q = p ++ b ∷ []

    c : Call
    c = given (payload o (p ++ b ∷ d)) rest

    n : ℕ
    n = length (doubled d)

    room : ltb (length p) payload_limit ≡ true
    room = lt-ltb (length p) payload_limit (omega arith)

    go : (t : Bool) → eqb b iac ≡ t → given (payload o q) (doubled d ++ rest) ≡ ahead n [] (given (payload o (q ++ d)) rest)
        → given (payload o p) (doubled (b ∷ d) ++ rest) ≡ ahead (length (doubled (b ∷ d))) [] c
    go true e ih =
        let ih' : given (payload o q) (doubled d ++ rest) ≡ ahead n [] c = rw append_assoc at ih in
        rw (e, e, e, room) (ap (λ (k : Call). onward [] (onward [] k)) ih' ∙ ap (onward []) (ahead-on [] n [] c) ∙ ahead-on [] (suc n) [] c)
    go false e ih =
        let ih' : given (payload o q) (doubled d ++ rest) ≡ ahead n [] c = rw append_assoc at ih in
        rw (e, e, room) (ap (onward []) ih' ∙ ahead-on [] n [] c)

-- what was copied of the stretch at a place
pub record Copied (s : List ℕ) (i : ℕ) (out : List ℕ) (to : ℕ) (r : Extent) (left : List ℕ) : Type 0 where
  pub bytes : List ℕ
  pub number : r.count ≡ length bytes
  pub place : r.end ≡ i + length (doubled bytes)
  pub cut : drop i s ≡ doubled bytes ++ drop r.end s
  pub lent : left ≡ overwrite out to bytes
  pub room : length bytes ≤ length out - to

cut_off : (x y bs : List ℕ) → bs ≡ x ++ y → bs ≡ x ++ drop (length x) bs
cut_off x y bs e = e ∙ ap (λ l. x ++ l) (sym (ap (drop (length x)) e ∙ drop-append_seam x y))

first-cut : (k : ℕ) (bs : List ℕ) → bs ≡ doubled (take k (data_run bs)) ++ drop (length (doubled (take k (data_run bs)))) bs
first-cut k bs =
    let u = data_run bs in
    let parts : doubled u ≡ doubled (take k u) ++ doubled (drop k u) = ap doubled (sym (take-append-drop k u)) ∙ doubled-append (take k u) (drop k u) in
    cut_off (doubled (take k u)) (doubled (drop k u) ++ (stretch bs).rest) bs
    ((stretch bs).whole ∙ ap (λ l. l ++ (stretch bs).rest) parts ∙ append_assoc (doubled (take k u)) (doubled (drop k u)) (stretch bs).rest)

pub was-copied : (s : List ℕ) (i : ℕ) (out : List ℕ) (to : ℕ) {r : Extent} {left : List ℕ} → outcome r left ≡ copy_run s i out to → Copied s i out to r left
unfolding copy_run copied
was-copied s i out to {r = r} e =
    let d = take (length out - to) (data_run (drop i s)) in
    let place : r.end ≡ i + length (doubled d) = ap (λ (o : Outcome Extent). o.answer.end) e in
    record {
      bytes = d;
      number = ap (λ (o : Outcome Extent). o.answer.count) e;
      place = place;
      cut = first-cut (length out - to) (drop i s)
          ∙ ap (λ l. doubled d ++ l) (drop-drop (length (doubled d)) i s ∙ ap (λ j. drop j s) (sym place));
      lent = ap (λ (o : Outcome Extent). o.lent) e;
      room = omega (arith, length-take (length out - to) (data_run (drop i s)));
    }

-- a copied stretch lies within the line
module _ {s : List ℕ} {i : ℕ} {out : List ℕ} {to : ℕ} {r : Extent} {left : List ℕ} (c : Copied s i out to r left) where
  pub copied-within : i ≤ length s → (i + r.count ≤ r.end) × (r.end ≤ length s)
  copied-within h =
      let l : length (drop i s) ≡ length (doubled c.bytes) + length (drop r.end s) = ap length c.cut ∙ length-append (doubled c.bytes) (drop r.end s) in
      (omega (arith, c.number, c.place, doubled-longer c.bytes), omega (arith, l, length-drop i s, c.place))

  pub copied-room : to ≤ length out → to + r.count ≤ length out
  copied-room h = omega (arith, c.room, c.number)

  pub copied-length : to ≤ length out → length left ≡ length out
  copied-length h = ap length c.lent ∙ length-overwrite out to c.bytes (omega (arith, c.room))

  copied-front : to ≤ length out → take (to + r.count) left ≡ take to out ++ c.bytes
  copied-front h = rw (c.lent, c.number) (take-written out to c.bytes h)

  pub copied-after : to ≤ length out → drop (to + r.count) left ≡ drop (to + r.count) out
  copied-after h = rw (c.lent, c.number) (drop-written out to c.bytes h)

  -- what is read after it, where all comes to `whole`
  module _ (x : List ℕ) (whole : Call) where
    data-on : ahead i x (given (data' []) (drop i s)) ≡ whole → ahead r.end (x ++ c.bytes) (given (data' []) (drop r.end s)) ≡ whole
    data-on inv =
        let k = given (data' []) (drop r.end s) in
        ap (λ j. ahead j (x ++ c.bytes) k) c.place
        ∙ sym (ahead-ahead i (length (doubled c.bytes)) x c.bytes k)
        ∙ ap (ahead i x) (sym (ap (given (data' [])) c.cut ∙ given-data c.bytes (drop r.end s)))
        ∙ inv

    payload-on : (o : ℕ) → length out ≡ payload_limit → to ≤ length out → ahead i x (given (payload o (take to out)) (drop i s)) ≡ whole
        → ahead r.end x (given (payload o (take (to + r.count) left)) (drop r.end s)) ≡ whole
    payload-on o l h inv =
        let p = take to out in
        let k = given (payload o (p ++ c.bytes)) (drop r.end s) in
        let fits : length p + length c.bytes ≤ payload_limit = omega (arith, length-take to out, c.room) in
        ap (λ (q : List ℕ). ahead r.end x (given (payload o q) (drop r.end s))) (copied-front h)
        ∙ ap (λ j. ahead j x k) c.place
        ∙ ap (λ (y : List ℕ). ahead (i + length (doubled c.bytes)) y k) (sym (append-nil x))
        ∙ sym (ahead-ahead i (length (doubled c.bytes)) x [] k)
        ∙ ap (ahead i x) (sym (ap (given (payload o p)) c.cut ∙ given-payload o c.bytes p (drop r.end s) fits))
        ∙ inv

-- after a byte that was set, and a stretch after it, a buffer is as it was
pub past-set : (out out₀ : List ℕ) (d b n : ℕ) → drop d out ≡ drop d out₀ → drop (d + 1 + n) (set out d b) ≡ drop (d + 1 + n) out₀
past-set out out₀ d b n e =
    let k : d + 1 + n ≡ d + (1 + n) = omega arith in
    drop-set-lt (d + 1 + n) out d b (omega arith)
    ∙ rw (k, ← drop-drop (1 + n) d out, ← drop-drop (1 + n) d out₀, e)

-- a byte at place i of s and the stretch after it
module _ (s : List ℕ) (i : ℕ) (at : Stage) (n : ℕ) (p out : List ℕ) (d : ℕ) (whole : Call)
    (inv : ahead i (take d out) (given (standing at n p) (drop i s)) ≡ whole) (t : Turn) (h : i < length s) (l : length p ≡ payload_limit)
    (e : t ≡ turn_of at n (get_or s i 0)) {r : Extent} where
  pub data-run : {left : List ℕ} → t.act ≡ Gives → d < length out → Copied s (i + 1) (set out d (get_or s i 0)) (d + 1) r left
      → ahead r.end (take (d + 1 + r.count) left) (given (standing t.stage n p) (drop r.end s)) ≡ whole
  unfolding standing
  data-run {left = left} k g c =
      let b = get_or s i 0 in
      let st : t.stage ≡ Data = turn_is at n b t Gives e k in
      let one = gives-on s i at n p (take d out) whole inv t h l e k in
      let one' : ahead (i + 1) (take (d + 1) (set out d b)) (given (data' []) (drop (i + 1) s)) ≡ whole =
      ap (λ (x : List ℕ). ahead (i + 1) x (given (data' []) (drop (i + 1) s))) (one_more out out d b g refl).0
      ∙ ap (λ (z : Stage). ahead (i + 1) (take d out ++ b ∷ []) (given (standing z n p) (drop (i + 1) s))) (sym st) ∙ one in
      let to : d + 1 ≤ length (set out d b) = rw length-set (omega arith) in
      ap (λ (z : Stage). ahead r.end (take (d + 1 + r.count) left) (given (standing z n p) (drop r.end s))) st
      ∙ ap (λ (x : List ℕ). ahead r.end x (given (data' []) (drop r.end s))) (copied-front c to)
      ∙ data-on c (take (d + 1) (set out d b)) whole one'

  pub kept_run : {left : List ℕ} → t.act ≡ Keeps → Copied s (i + 1) (set p n (get_or s i 0)) (n + 1) r left
      → ahead r.end (take d out) (given (standing t.stage (n + 1 + r.count) left) (drop r.end s)) ≡ whole
  unfolding standing
  kept_run {left = left} k c =
      let b = get_or s i 0 in
      let q = set p n b in
      let is = turn_is at n b t Keeps e k in
      let st = is.1 in
      let o = st.0 in
      let one = keeps_on s i at n p (take d out) whole inv t h l e k in
      let one' : ahead (i + 1) (take d out) (given (payload o (take (n + 1) q)) (drop (i + 1) s)) ≡ whole =
      ap (λ (z : Stage). ahead (i + 1) (take d out) (given (standing z (n + 1) q) (drop (i + 1) s))) (sym st.1) ∙ one in
      let long : length q ≡ payload_limit = rw length-set l in
      ap (λ (z : Stage). ahead r.end (take d out) (given (standing z (n + 1 + r.count) left) (drop r.end s))) st.1
      ∙ payload-on c (take d out) whole o long (omega (arith, long, is.0)) one'
