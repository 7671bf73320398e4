-- A record at the front of bytes: what is written is read there, and what is read there was written. Assumes nothing.
use Rattle.std.specs.Prelude.{if◌then◌else◌}
use mathlib.Core.Path.{◌≡◌, refl, sym, ap, ap₂, ◌∙◌}
use mathlib.Core.Bool.{Bool, true, false, ◌&&◌}
use mathlib.Core.List.{List, [], ◌∷◌, ◌++◌, map, append_assoc}
use Prim.Native.Nat.{ℕ, zero, suc, ◌+◌, ◌*◌, ◌/◌, ◌%◌, ◌^◌, ◌≤◌, ◌<◌}
use native.Mathlib.Omega.{arith}
use lib.Dec.{T, eqb, leb, ltb, leb→le, le→leb, ltb→lt, lt→ltb, eqb→eq}
use lib.ListN.{length, get_or, take, drop, length-append, length-take, length-drop, take-append-drop}
use lib.Pow.{pow-add}
use lib.Seq.{take-append_seam, drop-append_seam}
use borrow.Author.Tests.{lt-ltb, le-leb, eq-eqb}
use mir.Facts.{and_yes, yes_and}
use denote.Floats.{passes}
use Rattle.names.specs.Range.{every}
use Rattle.names.specs.Name.{is_name_byte, is_raised_name, profile_limit}
use Rattle.words.specs.BigEndian.{number, bytes}
use Rattle.words.proofs.BigEndian.{number-bytes, length-bytes}
use Rattle.profile.specs.Profile.{Shape, Profile, flags_byte, marks_of, token_bytes, tokens_of, sum_of, body_length, record_length, body_of, record_bytes}
use Rattle.profile.specs.Table.{flags_at, name_length_at, name_at, profile_at, is_record}
use Rattle.profile.specs.Theorems.{WellFormed}

pub two-more : (k : ℕ) → 2 ^ suc k ≡ 2 * 2 ^ k
two-more k = let e : suc k ≡ 1 + k = omega arith in rw (e, pow-add 2 1 k)

-- marks and flags
flags-below : (ms : List Bool) → flags_byte ms < 2 ^ length ms
unfolding flags_byte
flags-below [] = omega arith
flags-below (true ∷ ms) = omega (arith, flags-below ms, two-more (length ms))
flags-below (false ∷ ms) = omega (arith, flags-below ms, two-more (length ms))

marks-flags : (ms : List Bool) → marks_of (length ms) (flags_byte ms) ≡ ms
unfolding flags_byte marks_of
marks-flags [] = refl
marks-flags (true ∷ ms) =
    let low : (1 + 2 * flags_byte ms) % 2 ≡ 1 = omega arith in
    let high : (1 + 2 * flags_byte ms) / 2 ≡ flags_byte ms = omega arith in
    rw (low, high) (ap (λ l. true ∷ l) (marks-flags ms))
marks-flags (false ∷ ms) =
    let low : (0 + 2 * flags_byte ms) % 2 ≡ 0 = omega arith in
    let high : (0 + 2 * flags_byte ms) / 2 ≡ flags_byte ms = omega arith in
    rw (low, high) (ap (λ l. false ∷ l) (marks-flags ms))

pub length-marks : (k b : ℕ) → length (marks_of k b) ≡ k
unfolding marks_of
length-marks zero b = refl
length-marks (suc k) b = ap suc (length-marks k (b / 2))

-- tokens
pub length-joined : (ts : List (List ℕ)) → length (token_bytes ts) ≡ sum_of (map length ts)
unfolding token_bytes sum_of
length-joined [] = refl
length-joined (t ∷ ts) = omega (arith, length-append t (token_bytes ts), length-joined ts)

split-joined : (ts : List (List ℕ)) (rest : List ℕ) → tokens_of (map length ts) (token_bytes ts ++ rest) ≡ ts
unfolding token_bytes tokens_of
split-joined [] rest = refl
split-joined (t ∷ ts) rest =
    rw (append_assoc t (token_bytes ts) rest, take-append_seam t (token_bytes ts ++ rest), drop-append_seam t (token_bytes ts ++ rest)) (ap (λ l. t ∷ l) (split-joined ts rest))

-- what a raised name is
name-short : (limit : ℕ) (name : List ℕ) → T (is_raised_name limit name) → length name ≤ limit
unfolding is_raised_name
name-short limit name t =
    let y = and_yes (leb 1 (length name) && leb (length name) limit) (every is_name_byte name) t in
    leb→le (length name) limit (and_yes (leb 1 (length name)) (leb (length name) limit) y.0).1

pub four-on : (n : ℕ) → 4 + n ≡ suc (suc (suc (suc n)))
four-on n = omega arith

pub two-and-two : (n : ℕ) → 2 + (2 + n) ≡ suc (suc (suc (suc n)))
two-and-two n = omega arith

-- the record of a profile, with something after it
pub record Fronts (s : Shape) (p : Profile) (rest : List ℕ) : Type 0 where
  pub is : T (is_record s (record_bytes p ++ rest))
  pub says : profile_at s (record_bytes p ++ rest) ≡ p
  pub named : name_at (record_bytes p ++ rest) ≡ p.name
  pub after : drop (record_length s (name_length_at (record_bytes p ++ rest))) (record_bytes p ++ rest) ≡ rest
  pub some : 0 < length (record_bytes p ++ rest)

pub length-body : (s : Shape) (p : Profile) → WellFormed s p → length (body_of p) ≡ body_length s (length p.name)
length-body s p w = omega (arith, length-append p.name (token_bytes p.tokens), length-joined p.tokens, ap sum_of w.tokens)

module _ (s : Shape) (p : Profile) (rest : List ℕ) (w : WellFormed s p) (short : body_length s profile_limit < 2 ^ 16) where
  -- what comes after the four bytes in front
  abbrev tail : List ℕ
  tail = (p.name ++ token_bytes p.tokens) ++ rest

  small : body_length s (length p.name) < 2 ^ 16
  small = omega (arith, name-short profile_limit p.name w.name)

  said : number (bytes 2 (length (body_of p))) ≡ body_length s (length p.name)
  said = number-bytes 2 (length (body_of p)) ∙ omega (arith, small, length-body s p w)

  name-there : take (length p.name) tail ≡ p.name
  name-there = rw append_assoc (take-append_seam p.name (token_bytes p.tokens ++ rest))

  tokens-there : tokens_of s.tokens (drop (length p.name) tail) ≡ p.tokens
  tokens-there =
      rw (append_assoc, drop-append_seam p.name (token_bytes p.tokens ++ rest), ← w.tokens) (split-joined p.tokens rest)

  after-there : drop (length p.name + sum_of s.tokens) tail ≡ rest
  after-there =
      let e : length p.name + sum_of s.tokens ≡ length (p.name ++ token_bytes p.tokens) = omega (arith, length-body s p w) in
      rw e (drop-append_seam (p.name ++ token_bytes p.tokens) rest)

  pub fronts : Fronts s p rest
  unfolding record_bytes bytes is_record
  fronts =
      let n = length p.name in
      let all : length tail ≡ length (p.name ++ token_bytes p.tokens) + length rest = length-append (p.name ++ token_bytes p.tokens) rest in
      let bs = record_bytes p ++ rest in
      let long : record_length s n ≤ length bs = omega (arith, all, length-body s p w) in
      let below : flags_byte p.marks < 2 ^ s.marks = rw (← w.marks) (flags-below p.marks) in
      let marks : marks_of s.marks (flags_byte p.marks) ≡ p.marks = rw (← w.marks) (marks-flags p.marks) in
      record {
        is = yes_and (leb (record_length s n) (length bs)) _ (le→leb (record_length s n) (length bs) long)
            (yes_and (eqb (number (bytes 2 (length (body_of p)))) (body_length s n)) _ (rw (eq-eqb _ _ said) tt)
            (yes_and (ltb (flags_byte p.marks) (2 ^ s.marks)) _ (lt→ltb (flags_byte p.marks) (2 ^ s.marks) below) (rw name-there w.name)));
        says = rw (marks, four-on n, name-there, tokens-there);
        named = name-there;
        after = rw (two-and-two (n + sum_of s.tokens)) after-there;
        some = omega arith;
      }
