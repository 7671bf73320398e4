-- The laws of `copy_run`: a stretch is copied piece by piece, until it ends or the room does. Assumes nothing.
use mathlib.Core.Path.{◌≡◌, refl, sym, ap, ap₂, ◌∙◌}
use mathlib.Core.Bool.{true}
use mathlib.Core.List.{List, [], ◌∷◌, ◌++◌}
use Prim.Native.Nat.{ℕ, ◌+◌, ◌-◌, ◌≤◌, ◌<◌}
use native.Mathlib.Omega.{arith}
use lib.ListN.{length, drop, take, set, length-append, length-take}
use lib.Seq.{take_all, take_at}
use Rattle.octets.proofs.Front.{empty}
use Rattle.octets.specs.Lent.{Outcome, outcome, overwrite}
use Rattle.octets.proofs.Overwrite.{overwrite-nil, overwrite-one, overwrite-append, length-overwrite}
use Rattle.telnet.specs.Event.{iac}
use Rattle.telnet.specs.Read.{data_run}
use Rattle.telnet_data.specs.declared.Extent.{Extent}
use Rattle.telnet_data.specs.Promise.{count, span, copied, copy_run}
use Rattle.telnet_data.specs.Internal.Pieces.{is_doubled, plain, PlainCopied}
use Rattle.telnet_data.proofs.Stretches.{Piece, no-piece, joined, plain-piece, plain-length, doubled-piece, whole, Measured}

-- bytes of the stretch at a place that are put at a place of a buffer, and where they end in the line and in the buffer
pub record Put (s : List ℕ) (at : ℕ) (out : List ℕ) (to i k : ℕ) (left : List ℕ) : Type 0 where
  pub bytes : List ℕ
  pub piece : Piece s at bytes i
  pub place : k ≡ to + length bytes
  pub lent : left ≡ overwrite out to bytes
  pub same : length left ≡ length out
  pub room : length bytes ≤ length out - to

pub put-none : (s : List ℕ) (at : ℕ) (out : List ℕ) (to : ℕ) → Put s at out to at to out
put-none s at out to = record {
  bytes = [];
  piece = no-piece s at;
  place = omega arith;
  lent = sym (overwrite-nil out to);
  same = refl;
  room = omega arith;
}

module _ {s : List ℕ} {at : ℕ} {out : List ℕ} {to i k : ℕ} {left : List ℕ} (p : Put s at out to i k left) where
  -- one piece more
  put-piece : (x : List ℕ) {j m : ℕ} {l : List ℕ} → Piece s i x j → m ≡ k + length x → m ≤ length left → l ≡ overwrite left k x
      → Put s at out to j m l
  put-piece x q e h f =
      let d = p.bytes in
      record {
        bytes = d ++ x;
        piece = joined p.piece q;
        place = rw length-append (omega arith);
        lent = f ∙ ap₂ (λ o n. overwrite o n x) p.lent p.place ∙ overwrite-append out to d x (omega arith);
        same = ap length f ∙ length-overwrite left k x (omega arith) ∙ p.same;
        room = rw length-append (omega arith);
      }

  pub put-plain : {n : ℕ} {l : List ℕ} → k < length left → PlainCopied s i left k n l → Put s at out to (i + n) (k + n) l
  put-plain {n} h c =
      let all : n ≤ plain s i = omega arith in
      put-piece (take n (drop i s)) (plain-piece s i n all) (ap (λ m. k + m) (sym (plain-length s i n all))) (omega arith) c.lent

  pub put-doubled : k < length left → is_doubled (drop i s) ≡ true → Put s at out to (i + 2) (k + 1) (set left k iac)
  put-doubled h e = put-piece (iac ∷ []) (doubled-piece s i e) refl (omega arith) (sym (overwrite-one left k iac h))

  told : take (length out - to) (data_run (drop at s)) ≡ p.bytes → outcome (record { count = k - to; end = i }) left ≡ copy_run s at out to
  unfolding copy_run copied
  told e =
      let n : k - to ≡ length p.bytes = omega arith in
      rw (e, n, ← p.piece.place, ← p.lent)

  -- the stretch ends, or the room does
  pub put_whole : data_run (drop i s) ≡ [] → outcome (record { count = k - to; end = i }) left ≡ copy_run s at out to
  put_whole e = told (ap (take (length out - to)) (whole p.piece e) ∙ take_all (length out - to) p.bytes p.room)

  pub put_full : length left ≤ k → outcome (record { count = k - to; end = i }) left ≡ copy_run s at out to
  put_full h = told (ap (take (length out - to)) p.piece.bytes ∙ take_at p.bytes (data_run (drop i s)) (length out - to) (omega arith))

-- the stretch at a place, copied whole to a place of a buffer
pub record RunCopied (s : List ℕ) (at : ℕ) (out : List ℕ) (to : ℕ) (r : Extent) (l : List ℕ) : Type 0 where
  pub told : Measured s at r
  pub lent : l ≡ overwrite out to (data_run (drop at s))

module _ (s : List ℕ) (at : ℕ) (out : List ℕ) (to : ℕ) {r : Extent} {l : List ℕ} (e : outcome r l ≡ copy_run s at out to) where
  number : r.count ≡ length (take (length out - to) (data_run (drop at s)))
  unfolding copy_run copied
  number = ap (λ (o : Outcome Extent). o.answer.count) e

  -- what is copied is of the stretch
  pub run-some : 0 < r.count → 0 < count (drop at s)
  unfolding count
  run-some h = omega (arith, number, length-take (length out - to) (data_run (drop at s)))

  -- where nothing is copied the buffer is as it was, and nothing is there if there is room
  pub run_none : r.count ≡ 0 → l ≡ out
  unfolding copy_run copied
  run_none h = ap (λ (o : Outcome Extent). o.lent) e ∙ ap (overwrite out to) (empty _ (sym number ∙ h)) ∙ overwrite-nil out to

  pub run-empty : r.count ≡ 0 → to < length out → data_run (drop at s) ≡ []
  run-empty h g = empty (data_run (drop at s)) (omega (arith, number, length-take (length out - to) (data_run (drop at s))))

  -- where there is room for the stretch it is copied whole
  pub run-whole : count (drop at s) ≤ length out - to → RunCopied s at out to r l
  unfolding copy_run copied count span
  run-whole h =
      let all : take (length out - to) (data_run (drop at s)) ≡ data_run (drop at s) = take_all (length out - to) (data_run (drop at s)) h in
      let whole = e ∙ ap (copied at out to) all in
      record {
        told = record { counted = ap (λ (o : Outcome Extent). o.answer.count) whole; ended = ap (λ (o : Outcome Extent). o.answer.end) whole };
        lent = ap (λ (o : Outcome Extent). o.lent) whole;
      }
