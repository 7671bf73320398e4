-- SHA-1 of a message of bytes, in the order of FIPS 180-4: sections 4.1.1, 4.2.1, 5.1.1, 5.2.1, 5.3.1 and 6.1.2. Words
-- have 32 bits; sums, rotations, Ch, Parity, Maj, padding and cutting are those of the crate `words`, which has them
-- over the sizes.
use Rattle.std.specs.Prelude.{ℕ, zero, suc, ◌-◌, List, [], ◌∷◌, ◌++◌, ltb, length, get_or, if◌then◌else◌}
use Rattle.std.specs.Int.Bits.{bit_xor}
use Rattle.words.specs.Word.{sum, rotl, Ch, Parity, Maj}
use Rattle.words.specs.BigEndian.{bytes}
use Rattle.words.specs.Blocks.{cut, words_of}
use Rattle.words.specs.Padding.{padded}

infixl 6 ◌⊞◌
abbrev pub ◌⊞◌ : ℕ → ℕ → ℕ
x ⊞ y = sum 32 x y

abbrev pub ROTL : ℕ → ℕ → ℕ
ROTL n x = rotl 32 n x

-- what holds in the rounds 0 to 19, 20 to 39, 40 to 59 and 60 to 79
unfoldable pub by_round : {A : Type 0} → ℕ → A → A → A → A → A
by_round t x y z u = if ltb t 20 then x else if ltb t 40 then y else if ltb t 60 then z else u

-- section 4.1.1
abbrev pub f : ℕ → ℕ → ℕ → ℕ → ℕ
f t = by_round t (Ch 32) Parity Maj Parity

-- section 4.2.1
abbrev pub K : ℕ → ℕ
K t = by_round t 0x5a827999 0x6ed9eba1 0x8f1bbcdc 0xca62c1d6

-- the five words of a hash value, H₀ to H₄, and the working variables that start from them
pub record Five : Type 0 where
  pub a : ℕ
  pub b : ℕ
  pub c : ℕ
  pub d : ℕ
  pub e : ℕ

-- section 5.3.1
abbrev pub H⁰ : Five
H⁰ = record { a = 0x67452301; b = 0xefcdab89; c = 0x98badcfe; d = 0x10325476; e = 0xc3d2e1f0 }

-- section 6.1.2, step 1: the schedule is the block's sixteen words and sixty-four more, each of words before it

-- Wₜ₋ᵢ, where t words are there
abbrev pub back : List ℕ → ℕ → ℕ
back W i = get_or W (length W - i) 0

abbrev pub next : List ℕ → ℕ
next W = ROTL 1 (bit_xor (bit_xor (bit_xor (back W 3) (back W 8)) (back W 14)) (back W 16))

unfoldable pub extended : ℕ → List ℕ → List ℕ
extended zero W = W
extended (suc n) W = extended n (W ++ next W ∷ [])

unfoldable pub schedule : List ℕ → List ℕ
schedule block = extended 64 (words_of 4 block)

-- step 3: the round t, with its word Wₜ, and the rounds from t on
unfoldable pub round : ℕ → ℕ → Five → Five
round t Wₜ s = record {
  a = ROTL 5 s.a ⊞ f t s.b s.c s.d ⊞ s.e ⊞ K t ⊞ Wₜ;
  b = s.a;
  c = ROTL 30 s.b;
  d = s.c;
  e = s.d;
}

unfoldable pub rounds : ℕ → List ℕ → Five → Five
rounds t [] s = s
rounds t (Wₜ ∷ W) s = rounds (suc t) W (round t Wₜ s)

-- step 4, after the last round
unfoldable pub added : Five → Five → Five
added s H = record { a = s.a ⊞ H.a; b = s.b ⊞ H.b; c = s.c ⊞ H.c; d = s.d ⊞ H.d; e = s.e ⊞ H.e }

-- the hash value after a block: the working variables start as it was (step 2)
unfoldable pub compressed : Five → List ℕ → Five
compressed H block = added (rounds 0 (schedule block) H) H

-- and after each of some blocks in order
unfoldable pub hashed : Five → List (List ℕ) → Five
hashed H [] = H
hashed H (block ∷ blocks) = hashed (compressed H block) blocks

-- the message digest: H₀ to H₄ one after the other
unfoldable pub digest_of : Five → List ℕ
digest_of H = bytes 4 H.a ++ (bytes 4 H.b ++ (bytes 4 H.c ++ (bytes 4 H.d ++ bytes 4 H.e)))

-- all of it: the hash values over the 512-bit blocks of the message, padded with its length in 64 bits. The standard is
-- for less than 2 ^ 64 bits; a longer message, whose length is then written modulo 2 ^ 64, is hashed all the same.
unfoldable pub sha1 : List ℕ → List ℕ
sha1 message = digest_of (hashed H⁰ (cut 64 (padded 512 64 message)))
