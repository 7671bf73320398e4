-- A line that is handed back in 67 bytes has no more than these: its zeros fill what it leaves, so the bytes are as
-- many as the longer of the two. Assumes nothing.
use mathlib.Core.Path.{◌≡◌, ap, ◌∙◌}
use mathlib.Core.Bool.{Bool}
use mathlib.Core.List.{List}
use Prim.Native.Nat.{ℕ, ◌+◌, ◌-◌, ◌≤◌}
use native.Mathlib.Nat.{sub-zero}
use native.Mathlib.Omega.{arith}
use lib.ListN.{length, take, replicate, length-append, length-drop}
use Rattle.octets.specs.Lent.{outcome, overwrite}
use Rattle.octets.specs.Promise.{put_at}
use Rattle.octets.proofs.Overwrite.{overwrite-front, take-overwrite-front}
use Rattle.octets.proofs.Promise.{put_whole}
use Rattle.telnet_line.specs.declared.LineText.{LineText}
use Rattle.telnet_line.specs.Promise.{text_of_line}

module _ {t : LineText} (x : List ℕ) (e : t ≡ text_of_line x) where
  pub text-length : t.length ≡ length x
  unfolding text_of_line
  text-length = ap (λ (u : LineText). u.length) e

  pub text-bytes : t.bytes ≡ overwrite (replicate 67 0) 0 x
  unfolding text_of_line
  text-bytes = ap (λ (u : LineText). u.bytes) e

  -- `&bytes[0..length]` is the line
  pub text-front : take (t.length - 0) t.bytes ≡ x
  text-front = rw (sub-zero, text-length, text-bytes) (take-overwrite-front (replicate 67 0) x)

  -- and this is what a put of it leaves, where there is room
  pub text-put : (b : List ℕ) (at : ℕ) {r : Bool} {l : List ℕ} → at + length x ≤ length b
      → outcome r l ≡ put_at (take (t.length - 0) t.bytes) b at → l ≡ overwrite b at x
  text-put b at h g = put_whole x b at h (rw text-front at g)

  pub text-few : length t.bytes ≡ 67 → length x ≤ 67
  text-few h =
      let k = ap length (text-bytes ∙ overwrite-front (replicate 67 0) x) in
      omega (arith, simp (length-append, length-drop) at k)
