-- What is read without refusal was written: the theorem `Theorems.TablesWrittenBack`. Assumes nothing.
use Rattle.std.specs.Prelude.{if◌then◌else◌}
use mathlib.Core.Path.{◌≡◌, refl, sym, ap, subst, ◌∙◌}
use mathlib.Core.Bool.{Bool, true, false, not, ◌&&◌}
use mathlib.Core.List.{List, [], ◌∷◌, ◌++◌, map}
use Prim.Native.Nat.{ℕ, zero, suc, ◌+◌, ◌*◌, ◌/◌, ◌%◌, ◌^◌, ◌≤◌, ◌<◌}
use native.Mathlib.Omega.{arith}
use lib.Dec.{T, eqb, leb, ltb, leb→le, ltb→lt, eqb→eq}
use lib.ListN.{length, get_or, take, drop, length-append, length-take, length-drop, take-append-drop}
use lib.Seq.{take-add, get_or-drop}
use borrow.Author.Tests.{eqb-true, eqb-false, not-false}
use mir.Facts.{and_yes}
use denote.Floats.{passes}
use Rattle.octets.specs.Bytes.{Bytes}
use Rattle.octets.proofs.Choice.{choice}
use Rattle.names.specs.Name.{is_raised_name, profile_limit}
use Rattle.names.specs.Order.{precedes}
use Rattle.words.specs.BigEndian.{number, bytes}
use Rattle.words.proofs.BigEndian.{bytes-number}
use Rattle.profile.specs.Profile.{Shape, shape_of, Profile, flags_byte, marks_of, token_bytes, tokens_of, sum_of, body_length, record_length, body_of, record_bytes}
use Rattle.profile.specs.Table.{is_version, profile_count, name_length_at, name_at, profile_at, is_record}
use Rattle.profile.specs.Table.{TableReading, profiles, table_refused, add_profile, unless_end, profiles_from, table_of, version_of, shape_in, records_bytes, table_bytes}
use Rattle.profile.specs.Theorems.{WellFormed, Ascending, IsTable, TablesWrittenBack}
use Rattle.profile.proofs.Fronts.{two-more, length-marks, length-joined, four-on, two-and-two}

bit-of : (f : ℕ) → (if eqb (f % 2) 1 then 1 else 0) ≡ f % 2
bit-of f = choice (λ n. n ≡ f % 2) (eqb (f % 2) 1) (λ e. sym (eqb-true (f % 2) 1 e)) (λ e. omega (arith, eqb-false (f % 2) 1 e))

flags-marks : (k f : ℕ) → f < 2 ^ k → flags_byte (marks_of k f) ≡ f
unfolding flags_byte marks_of
flags-marks zero f h = omega arith
flags-marks (suc k) f h = omega (arith, flags-marks k (f / 2) (omega (arith, h, two-more k)), bit-of f)

pub joined-split : (ns l : List ℕ) → token_bytes (tokens_of ns l) ≡ take (sum_of ns) l
unfolding token_bytes tokens_of sum_of
joined-split [] l = refl
joined-split (n ∷ ns) l = rw (joined-split ns (drop n l)) (sym (take-add n (sum_of ns) l))

lengths-split : (ns l : List ℕ) → sum_of ns ≤ length l → map length (tokens_of ns l) ≡ ns
unfolding tokens_of sum_of
lengths-split [] l h = refl
lengths-split (n ∷ ns) l h =
    let here : length (take n l) ≡ n = rw length-take (omega arith) in
    rw (here, lengths-split ns (drop n l) (rw length-drop (omega arith)))

pair-bytes : (a b : ℕ) → a < 256 → b < 256 → Bytes (a ∷ b ∷ [])
pair-bytes a b g h zero = g
pair-bytes a b g h (suc zero) = h
pair-bytes a b g h (suc (suc i)) = omega arith

-- a record at the front: the profile that it says is well-formed, and its record is what is there
pub record Backs (s : Shape) (bs : List ℕ) : Type 0 where
  pub good : WellFormed s (profile_at s bs)
  pub whole : record_bytes (profile_at s bs) ++ drop (record_length s (name_length_at bs)) bs ≡ bs

four-there : (s : Shape) (bs : List ℕ) → T (is_record s bs) → 4 ≤ length bs
unfolding is_record
four-there s bs t =
    let y = and_yes (leb (record_length s (name_length_at bs)) (length bs)) _ t in
    omega (arith, leb→le (record_length s (name_length_at bs)) (length bs) y.0)

pub backs : (s : Shape) (bs : List ℕ) → Bytes bs → T (is_record s bs) → Backs s bs
unfolding is_record record_bytes
backs s [] g t = absurd (omega (arith, four-there s [] t))
backs s (a ∷ []) g t = absurd (omega (arith, four-there s (a ∷ []) t))
backs s (a ∷ b ∷ []) g t = absurd (omega (arith, four-there s (a ∷ b ∷ []) t))
backs s (a ∷ b ∷ f ∷ []) g t = absurd (omega (arith, four-there s (a ∷ b ∷ f ∷ []) t))
backs s (a ∷ b ∷ f ∷ n ∷ r) g t =
    let bs = a ∷ b ∷ f ∷ n ∷ r in
    let y = and_yes (leb (record_length s n) (length bs)) _ t in
    let z = and_yes (eqb (number (a ∷ b ∷ [])) (body_length s n)) _ y.1 in
    let u = and_yes (ltb f (2 ^ s.marks)) _ z.1 in
    let long = leb→le (record_length s n) (length bs) y.0 in
    let said = eqb→eq (number (a ∷ b ∷ [])) (body_length s n) z.0 in
    let ts = s.tokens in
    let rest = drop n r in
    let name : length (take n r) ≡ n = rw length-take (omega arith) in
    let room : sum_of ts ≤ length rest = rw length-drop (omega arith) in
    let lengths = lengths-split ts rest room in
    let flags = flags-marks s.marks f (ltb→lt f (2 ^ s.marks) u.0) in
    let size : length (take n r ++ token_bytes (tokens_of ts rest)) ≡ n + sum_of ts =
    omega (arith, length-append (take n r) (token_bytes (tokens_of ts rest)), length-joined (tokens_of ts rest), ap sum_of lengths, name) in
    let says : length (body_of (profile_at s bs)) ≡ number (a ∷ b ∷ []) = rw (four-on n) (omega (arith, size, said)) in
    let two : bytes 2 (number (a ∷ b ∷ [])) ≡ a ∷ b ∷ [] = bytes-number (a ∷ b ∷ []) (pair-bytes a b (g 0) (g 1)) in
    let all : (take n r ++ token_bytes (tokens_of ts rest)) ++ drop (n + sum_of ts) r ≡ r =
    rw (joined-split ts rest, ← take-add n (sum_of ts) r) (take-append-drop (n + sum_of ts) r) in
    record {
      good = record { marks = length-marks s.marks f; name = u.1; tokens = rw (four-on n) lengths };
      whole = rw (says, two, flags, name, four-on n, two-and-two (n + sum_of ts)) (ap (λ l. a ∷ b ∷ f ∷ n ∷ l) all);
    }

-- a reading of bytes that means what is there
abbrev Means : Shape → ℕ → List ℕ → List ℕ → TableReading → Type 0
Means s room before bs (profiles ps) = (records_bytes ps ≡ bs) × (Ascending s before ps × (length ps ≤ room))
Means s room before bs (table_refused r) = Unit {0}

bytes-from : (k : ℕ) (bs : List ℕ) → Bytes bs → Bytes (drop k bs)
bytes-from k bs g i = rw get_or-drop (g (k + i))

add-means : (s : Shape) (room : ℕ) (before bs : List ℕ) (r : TableReading) → Bytes bs → T (is_record s bs) → T (precedes before (name_at bs))
    → Means s room (name_at bs) (drop (record_length s (name_length_at bs)) bs) r → Means s (suc room) before bs (add_profile (profile_at s bs) r)
unfolding add_profile records_bytes
add-means s room before bs (profiles ps) g t o m =
    let b = backs s bs g t in (
      rw m.0 b.whole,
      ((b.good, (o, m.1.0)), omega (arith, m.1.1)),
    )
add-means s room before bs (table_refused r) g t o m = tt

records-mean : (s : Shape) (room : ℕ) (before bs : List ℕ) → Bytes bs → Means s room before bs (profiles_from s room before bs)
unfolding profiles_from records_bytes unless_end
records-mean s zero before [] g = (refl, (tt, omega arith))
records-mean s zero before (b ∷ bs) g = choice (Means s zero before (b ∷ bs)) (not (is_record s (b ∷ bs))) (λ _. tt) (λ _. tt)
records-mean s (suc room) before [] g = (refl, (tt, omega arith))
records-mean s (suc room) before (b ∷ bs) g =
    let l = b ∷ bs in
    let rest = drop (record_length s (name_length_at l)) l in
    let more = records-mean s room (name_at l) rest (bytes-from (record_length s (name_length_at l)) l g) in
    choice (Means s (suc room) before l) (not (is_record s l))
    (λ _. tt)
    (λ t. choice (Means s (suc room) before l) (not (precedes before (name_at l)))
    (λ _. tt)
    (λ o.
    add-means s room before l (profiles_from s room (name_at l) rest) g
    (passes (is_record s l) (not-false _ t)) (passes (precedes before (name_at l)) (not-false _ o)) more))

-- a reading of a table that means what is there
abbrev pub TableMeans : List ℕ → TableReading → Type 0
TableMeans bs (profiles ps) = IsTable bs ps
TableMeans bs (table_refused r) = Unit {0}

with-version : (v : ℕ) → T (is_version v) → (bs : List ℕ) (r : TableReading) → Means (shape_of v) profile_count [] bs r → TableMeans (v ∷ bs) r
with-version v known bs (profiles ps) m = record { known = known; bytes = ap (λ l. v ∷ l) m.0; ascending = m.1.0; few = m.1.1 }
with-version v known bs (table_refused r) m = tt

pub table-means : (bs : List ℕ) → Bytes bs → TableMeans bs (table_of bs)
unfolding table_of
table-means [] g = tt
table-means (v ∷ bs) g =
    choice (TableMeans (v ∷ bs)) (not (is_version v))
    (λ _. tt)
    (λ e.
    with-version v (passes (is_version v) (not-false _ e)) bs (profiles_from (shape_of v) profile_count [] bs)
    (records-mean (shape_of v) profile_count [] bs (λ i. g (suc i))))

pub tables-written-back : TablesWrittenBack
tables-written-back bs ps g e = subst (TableMeans bs) e (table-means bs g)
