-- Lines put to the front of the room. Assumes nothing.
use mathlib.Core.Path.{◌≡◌, sym, ap, ◌∙◌}
use mathlib.Core.Bool.{Bool}
use mathlib.Core.List.{List, ◌++◌}
use Prim.Native.Nat.{ℕ, ◌+◌, ◌<◌, ◌≤◌}
use native.Mathlib.Omega.{arith}
use borrow.Author.Tests.{lt-ltb, le-ltb}
use lib.ListN.{length, length-append}
use Rattle.octets.specs.Ascii.{ascii}
use Rattle.octets.specs.Decimal.{decimal}
use Rattle.octets.specs.Lent.{Outcome, outcome, overwrite, at_front}
use Rattle.octets.specs.Promise.{put_at}
use Rattle.octets.proofs.Decimal.{length-decimal-lt}
use Rattle.octets.proofs.Promise.{both-put}
use Rattle.signon_text.specs.Printed.{limit, line_of, explained, printed}

pub too_long : (input : List ℕ) → limit < length input → printed input ≡ ascii "TOO LONG\n"
unfolding printed
too_long input h = rw (lt-ltb limit (length input) h)

pub not-too-long : (input : List ℕ) → length input ≤ limit → printed input ≡ line_of (explained input)
unfolding printed
not-too-long input h = rw (le-ltb limit (length input) h)

-- how long the number of a refusal is
pub few-digits : (n : ℕ) → n < 256 → length (decimal n) ≤ 3
few-digits n h = length-decimal-lt 2 n (omega arith)

-- REFUSED, a number and the end of the line
module _ (n : ℕ) (out : List ℕ) (byte : n < 256) (room : length out ≡ 32) where
  abbrev word : List ℕ
  word = ascii "REFUSED "

  numbered : {a b : List ℕ} {t : Bool} → a ≡ overwrite out 0 word → outcome t b ≡ put_at (decimal n) a 8 → b ≡ overwrite out 0 (word ++ decimal n)
  numbered e put = ap (λ (o : Outcome ℕ). o.lent) (both-put word (decimal n) out (omega (arith, few-digits n byte)) e put)

  pub refusal-put : {a b l : List ℕ} {t u : Bool} (k : ℕ) → k ≡ length (decimal n) → a ≡ overwrite out 0 word → outcome t b ≡ put_at (decimal n) a 8
      → outcome u l ≡ put_at (ascii "\n") b (8 + k)
      → outcome (8 + k + 1) l ≡ at_front (word ++ decimal n ++ ascii "\n") out
  refusal-put k digits e d f =
      let long : length (word ++ decimal n) ≡ 8 + k = length-append word (decimal n) ∙ ap (λ m. 8 + m) (sym digits) in
      rw (← long) (both-put (word ++ decimal n) (ascii "\n") out (omega (arith, long, digits, few-digits n byte)) (numbered e d) (rw (← long) at f))
