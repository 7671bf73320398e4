-- The last blocks of a padded message: they fit two blocks, written into zeros they are `tail`, and `tail` is what is
-- left of the message with its padding. Assumes nothing.
use mathlib.Core.Path.{◌≡◌, refl, sym, ap, ◌∙◌}
use mathlib.Core.List.{List, ◌∷◌, ◌++◌, append_assoc}
use Prim.Native.Nat.{ℕ, suc, ◌+◌, ◌-◌, ◌*◌, ◌/◌, ◌%◌, ◌≤◌, ◌<◌}
use native.Mathlib.Nat.{div-add-mod', mod-lt, mul-add-div_right, mul-le-mul_right, div-lt_iff_lt-mul, le_of_suc-le-suc}
use native.Mathlib.Omega.{arith}
use lib.ListN.{length, take, drop, set, replicate, length-append, length-drop, length-set, length-replicate, replicate-append-replicate}
use lib.Seq.{take_at, drop_at, set_at}
use Rattle.octets.specs.Lent.{overwrite}
use Rattle.octets.proofs.Overwrite.{overwrite-front, take-written, length-overwrite}
use Rattle.words.specs.BigEndian.{bytes}
use Rattle.words.specs.Padding.{zero_bits, padding}
use Rattle.words.specs.Internal.Tail.{end, tail}
use Rattle.words.proofs.BigEndian.{length-bytes}
use Rattle.words.proofs.Padding.{zero-bytes}

module _ (b f : ℕ) (small : f < b) where
  -- after fewer bytes than a block there is room for the bit and the length in two
  pub end-above : (n : ℕ) → n + f < end b f n
  end-above n = omega (arith, div-add-mod' (n + f) b, mod-lt (n + f) {m = b} (omega arith))

  pub end-within : (n : ℕ) → n < b → end b f n ≤ 2 * b
  end-within n h =
      let p : 0 < b = omega arith in
      let t : n + f < 2 * b = omega arith in
      let few : (n + f) / b < 2 = (div-lt_iff_lt-mul p).1 t in
      omega (arith, mul-le-mul_right {m = (n + f) / b} {n = 1} b (le_of_suc-le-suc few))

  module _ (rest : List ℕ) (h : length rest < b) (blank : List ℕ) (z : blank ≡ replicate (2 * b) 0) where
    -- the zero bytes between the bit 1 and the length, and those from there on
    abbrev gap : ℕ
    gap = end b f (length rest) - (length rest + 1 + f)

    abbrev trailing : ℕ
    trailing = 2 * b + f - end b f (length rest)

    -- the buffer with the message's bytes and the bit 1, and with the length too
    abbrev pub begun : List ℕ
    begun = set (overwrite blank 0 rest) (length rest) 128

    abbrev pub finished : ℕ → List ℕ
    finished ℓ = overwrite begun (end b f (length rest) - f) (bytes f ℓ)

    bounds : (length rest + f < end b f (length rest)) × (end b f (length rest) ≤ 2 * b)
    bounds = (end-above (length rest), end-within (length rest) h)

    zeros : blank ≡ replicate (length rest) 0 ++ 0 ∷ (replicate gap 0 ++ replicate trailing 0)
    zeros =
        let e : length rest + suc (gap + trailing) ≡ 2 * b = omega (arith, bounds) in
        let inner = replicate-append-replicate {A = ℕ} gap trailing 0 in
        let outer = replicate-append-replicate {A = ℕ} (length rest) (suc (gap + trailing)) 0 in
        rw (inner, outer, e) z

    length-blank : length blank ≡ 2 * b
    length-blank = ap length z ∙ length-replicate (2 * b) 0

    begun-is : begun ≡ rest ++ 128 ∷ (replicate gap 0 ++ replicate trailing 0)
    begun-is =
        let front : List ℕ = replicate (length rest) 0 in
        let after : drop (length rest) blank ≡ 0 ∷ (replicate gap 0 ++ replicate trailing 0) =
        ap (drop (length rest)) zeros ∙ drop_at front _ (length rest) (length-replicate (length rest) 0) in
        rw (overwrite-front blank rest, after) (set_at rest 0 _ 128 (length rest) refl)

    length-begun : length begun ≡ 2 * b
    length-begun =
        length-set (overwrite blank 0 rest) (length rest) 128
        ∙ length-overwrite blank 0 rest (omega (arith, length-blank)) ∙ length-blank

    pub room : (ℓ : ℕ) → end b f (length rest) - f + length (bytes f ℓ) ≤ length begun
    room ℓ = omega (arith, length-bytes f ℓ, length-begun, bounds)

    pub length-finished : (ℓ : ℕ) → length (finished ℓ) ≡ 2 * b
    length-finished ℓ = length-overwrite begun (end b f (length rest) - f) (bytes f ℓ) (room ℓ) ∙ length-begun

    pub built : (ℓ : ℕ) → take (end b f (length rest)) (finished ℓ) ≡ tail b f rest ℓ
    unfolding tail
    built ℓ =
        let n = end b f (length rest) in
        let mark : List ℕ = 128 ∷ replicate gap 0 in
        let e : n ≡ n - f + length (bytes f ℓ) = rw (length-bytes f ℓ) (omega (arith, bounds)) in
        let l : length (rest ++ mark) ≡ n - f = simp (length-append, length-replicate) (omega (arith, bounds)) in
        let whole = begun-is ∙ sym (append_assoc rest mark (replicate trailing 0)) in
        let front = ap (take (n - f)) whole ∙ take_at (rest ++ mark) (replicate trailing 0) (n - f) l in
        ap (λ m. take m (finished ℓ)) e ∙ take-written begun (n - f) (bytes f ℓ) (omega (arith, length-begun, bounds))
        ∙ ap (λ x. x ++ bytes f ℓ) front ∙ append_assoc rest mark (bytes f ℓ)

  -- the last blocks of a message need only its last bytes and its length
  pub tail-is : (m : List ℕ)
      → tail b f (drop (length m / b * b) m) (8 * length m) ≡ drop (length m / b * b) m ++ padding (8 * b) (8 * f) (length m)
  unfolding tail padding
  tail-is m =
      let n = length m in
      let r = n % b in
      let p : 0 < b = omega arith in
      let whole = div-add-mod' n b in
      let g : length (drop (n / b * b) m) ≡ r = length-drop (n / b * b) m ∙ omega (arith, whole) in
      let s : n + f ≡ n / b * b + (r + f) = omega (arith, whole) in
      let q : (n + f) / b ≡ n / b + (r + f) / b = ap (λ x. x / b) s ∙ mul-add-div_right p (n / b) (r + f) in
      let fills = rw q at (zero-bytes b f p n) in
      let e : end b f r - (r + 1 + f) ≡ zero_bits (8 * b) (8 * f) (8 * n) / 8 = omega (arith, fills, whole) in
      let k : 8 * f / 8 ≡ f = omega arith in
      rw (g, e, k)
