-- Laws of a copy of the first bytes of a text: where there is room for it and where not, one byte of it, and its end.
-- Assumes nothing.
use mathlib.Core.Path.{◌≡◌, refl, sym, ap, ◌∙◌}
use mathlib.Core.Bool.{Bool, true, false}
use mathlib.Core.List.{List, []}
use Prim.Native.Nat.{ℕ, suc, ◌+◌, ◌-◌, ◌≤◌, ◌<◌}
use native.Mathlib.Nat.{add_assoc}
use native.Mathlib.Omega.{arith}
use borrow.Author.Tests.{le-leb, lt-leb}
use lib.ListN.{length, get_or, take, drop, set, length-take}
use lib.Seq.{take-length}
use Rattle.env_text.specs.Text.{text_of, text_at, copy_text}
use Rattle.env_text.proofs.Scanning.{Next}
use Rattle.octets.specs.Lent.{Outcome, outcome, overwrite}
use Rattle.octets.proofs.Overwrite.{overwrite-nil, overwrite-cons}

pub copy-refused : (s : List ℕ) (from count : ℕ) (out : List ℕ) (at : ℕ) → length out < at + count → copy_text s from count out at ≡ outcome false out
unfolding copy_text
copy-refused s from count out at h = rw (lt-leb (at + count) (length out) h)

-- where there is room, and the bytes were put there
pub copy-whole : (s : List ℕ) (from count : ℕ) (out₀ : List ℕ) (at : ℕ) (out : List ℕ) → at + count ≤ length out₀
    → out ≡ overwrite out₀ at (take count (text_of (drop from s)).bytes) → outcome true out ≡ copy_text s from count out₀ at
unfolding copy_text
copy-whole s from count out₀ at out h e = rw (le-leb (at + count) (length out₀) h, e)

-- one byte, and then those after it
pub copy-next : (s out : List ℕ) (i w at k count : ℕ) → Next s i w → k < count → at + count ≤ length out
    → overwrite (set out (at + k) (get_or s (i + w - 1) 0)) (at + (k + 1)) (take (count - (k + 1)) (text_of (drop (i + w) s)).bytes)
    ≡ overwrite out (at + k) (take (count - k) (text_of (drop i s)).bytes)
copy-next s out i w at k count n h room =
    let b = get_or s (i + w - 1) 0 in
    let left = count - (k + 1) in
    let rest = (text_of (drop (i + w) s)).bytes in
    let all : count - k ≡ suc left = omega arith in
    let fit : at + k + suc (length (take left rest)) ≤ length out = omega (arith, length-take left rest) in
    rw (← add_assoc, n.byte, all) (overwrite-cons out (at + k) b (take left rest) fit)

-- where no byte is left, nothing more is put
pub copy-over : (out : List ℕ) (at : ℕ) (x : List ℕ) → x ≡ [] → out ≡ overwrite out at x
copy-over out at x e = rw e (sym (overwrite-nil out at))

-- what is left of a copy of the whole text, where there is room
pub copy-left : (s : List ℕ) (from : ℕ) (out₀ : List ℕ) (at : ℕ) {t : Bool} {out : List ℕ} → at + (text_at s from).length ≤ length out₀
    → outcome t out ≡ copy_text s from (text_at s from).length out₀ at → out ≡ overwrite out₀ at (text_of (drop from s)).bytes
unfolding text_at copy_text
copy-left s from out₀ at h e =
    let x = (text_of (drop from s)).bytes in
    let fits = le-leb (at + length x) (length out₀) h in
    ap (λ (o : Outcome Bool). o.lent) (rw (fits, take-length x) at e)
