-- Response records are right, and two are those that RFC 4777 prints: the theorems `Theorems.ResponsesAreRight` and
-- `Theorems.Figures`. Assumes nothing.
use Rattle.std.specs.Prelude.{if◌then◌else◌}
use mathlib.Core.Path.{◌≡◌, refl, sym, ap, subst, ◌∙◌}
use mathlib.Core.Bool.{Bool, true, false}
use mathlib.Core.List.{List, [], ◌∷◌, ◌++◌, append_assoc}
use mathlib.Core.Logic.{◌↔◌, ◌⊎◌, inl, inr, ⊎_elim}
use Prim.Native.Nat.{ℕ, ◌+◌, ◌-◌}
use native.Mathlib.Omega.{arith}
use denote.Floats.{is_true}
use borrow.Author.Tests.{eq-eqb}
use lib.Dec.{T, eqb}
use lib.ListN.{length, take, drop, replicate, length-map, length-drop}
use lib.Seq.{drop-drop, take_at, drop_at}
use Rattle.octets.specs.Ascii.{ascii}
use Rattle.octets.specs.Same.{same}
use Rattle.octets.proofs.Choice.{choice}
use Rattle.octets.proofs.Equality.{same-sound, same_refl}
use Rattle.words.specs.BigEndian.{bytes}
use Rattle.names.specs.Ebcdic.{ebcdic, blank, ebcdic_of}
use Rattle.names.specs.Name.{raised_byte, raised, is_name, device_limit, system_limit}
use Rattle.names.specs.Padding.{filled}
use Rattle.names.proofs.Text.{length-filled, name-length}
use Rattle.telnet.specs.Event.{run, command, eor}
use Rattle.telnet.specs.Write.{doubled, written, written_all}
use Rattle.telnet.specs.Record.{record_of, complete}
use Rattle.telnet.proofs.Between.{record-reads-back}
use Rattle.signon.specs.declared.Verdict.{Verdict}
use Rattle.signon.specs.declared.Verdict.TheVariants.{Panel, NotKnown, Disabled, Failed, Grant}
use Rattle.signon.specs.Digits.{digits_of}
use Rattle.startup.specs.Response.{session_started, device_not_available, figure1, figure2, code_of, fixed_fields, fields, joined, response_of}
use Rattle.startup.specs.Theorems.{fixed_at, code_at, Says, Responds, ResponsesAreRight, Figures}

pub length-ebcdic : (width : ℕ) (text : List ℕ) → is_name width text ≡ true → length (filled blank width (ebcdic_of text)) ≡ width
length-ebcdic width text good =
    omega (arith, length-filled blank width (ebcdic_of text), length-map (raised text) ebcdic, length-map text raised_byte, name-length width text good)

-- the EBCDIC of a text has as many bytes as the text
filled-ebcdic : (width : ℕ) (text : List ℕ)
    → filled blank width (ebcdic_of text) ≡ ebcdic_of text ++ replicate (width - length text) 0x40
unfolding filled
filled-ebcdic width text = simp length-map

-- verdicts are told apart by a number
rank : Verdict → ℕ
rank Panel = 0
rank NotKnown = 1
rank Disabled = 2
rank Failed = 3
rank Grant = 4

apart : {v w : Verdict} → eqb (rank v) (rank w) ≡ false → v ≡ w → ⊥
apart {v} {w} e same = let z : ◌≡◌ {A = Bool} true false = sym (eq-eqb (rank v) (rank w) (ap rank same)) ∙ e in subst T z tt

clash : true ≡ false → ⊥
clash e = subst T e tt

-- a code is in the record where its test says so
abbrev Test : Bool → Verdict → List ℕ → Bool
Test fault v code = same (ebcdic_of (code_of fault v)) (ebcdic_of code)

device-fault : (fault : Bool) (v : Verdict) → T (Test fault v device_not_available) ↔ (fault ≡ true)
unfolding code_of ebcdic raised_byte same
device-fault true v = (λ _. refl, λ _. tt)
device-fault false Panel = (absurd, λ e. clash (sym e))
device-fault false NotKnown = (absurd, λ e. clash (sym e))
device-fault false Disabled = (absurd, λ e. clash (sym e))
device-fault false Failed = (absurd, λ e. clash (sym e))
device-fault false Grant = (absurd, λ e. clash (sym e))

-- the three verdicts that have digits
abbrev HasDigits : Verdict → Type 0
HasDigits Panel = ⊥
HasDigits NotKnown = Unit {0}
HasDigits Disabled = Unit {0}
HasDigits Failed = Unit {0}
HasDigits Grant = ⊥

digits : (fault : Bool) (v w : Verdict) → HasDigits w → T (Test fault v (digits_of w)) ↔ ((fault ≡ false) × (v ≡ w))
unfolding code_of ebcdic raised_byte same rank
digits false Panel NotKnown _ = (absurd, λ p. apart refl p.1)
digits false Panel Disabled _ = (absurd, λ p. apart refl p.1)
digits false Panel Failed _ = (absurd, λ p. apart refl p.1)
digits false NotKnown NotKnown _ = (λ _. (refl, refl), λ _. tt)
digits false NotKnown Disabled _ = (absurd, λ p. apart refl p.1)
digits false NotKnown Failed _ = (absurd, λ p. apart refl p.1)
digits false Disabled NotKnown _ = (absurd, λ p. apart refl p.1)
digits false Disabled Disabled _ = (λ _. (refl, refl), λ _. tt)
digits false Disabled Failed _ = (absurd, λ p. apart refl p.1)
digits false Failed NotKnown _ = (absurd, λ p. apart refl p.1)
digits false Failed Disabled _ = (absurd, λ p. apart refl p.1)
digits false Failed Failed _ = (λ _. (refl, refl), λ _. tt)
digits false Grant NotKnown _ = (absurd, λ p. apart refl p.1)
digits false Grant Disabled _ = (absurd, λ p. apart refl p.1)
digits false Grant Failed _ = (absurd, λ p. apart refl p.1)
digits false Panel Panel g = absurd g
digits false Panel Grant g = absurd g
digits false NotKnown Panel g = absurd g
digits false NotKnown Grant g = absurd g
digits false Disabled Panel g = absurd g
digits false Disabled Grant g = absurd g
digits false Failed Panel g = absurd g
digits false Failed Grant g = absurd g
digits false Grant Panel g = absurd g
digits false Grant Grant g = absurd g
digits true v Panel g = absurd g
digits true v NotKnown _ = (absurd, λ p. clash p.0)
digits true v Disabled _ = (absurd, λ p. clash p.0)
digits true v Failed _ = (absurd, λ p. clash p.0)
digits true v Grant g = absurd g

started : (fault : Bool) (v : Verdict) → T (Test fault v session_started) ↔ ((fault ≡ false) × ((v ≡ Grant) ⊎ (v ≡ Panel)))
unfolding code_of ebcdic raised_byte same rank
started true v = (absurd, λ p. clash p.0)
started false Panel = (λ _. (refl, inr refl), λ _. tt)
started false NotKnown = (absurd, λ p. ⊎_elim (apart refl) (apart refl) p.1)
started false Disabled = (absurd, λ p. ⊎_elim (apart refl) (apart refl) p.1)
started false Failed = (absurd, λ p. ⊎_elim (apart refl) (apart refl) p.1)
started false Grant = (λ _. (refl, inl refl), λ _. tt)

pub length-code : (fault : Bool) (v : Verdict) → length (ebcdic_of (code_of fault v)) ≡ 4
unfolding code_of
length-code true v = refl
length-code false Panel = refl
length-code false NotKnown = refl
length-code false Disabled = refl
length-code false Failed = refl
length-code false Grant = refl

figure-2 : (fault : Bool) (v : Verdict) → (T (Test fault v session_started) → ⊥) → fixed_fields (code_of fault v) ≡ figure2
unfolding code_of fixed_fields ebcdic raised_byte same
figure-2 true v never = refl
figure-2 false Panel never = absurd (never tt)
figure-2 false NotKnown never = refl
figure-2 false Disabled never = refl
figure-2 false Failed never = refl
figure-2 false Grant never = absurd (never tt)

figure-1 : (fault : Bool) (v : Verdict) → (fault ≡ false) × ((v ≡ Grant) ⊎ (v ≡ Panel)) → fixed_fields (code_of fault v) ≡ figure1
unfolding code_of fixed_fields same
figure-1 fault v (off, inl e) = rw (off, e)
figure-1 fault v (off, inr e) = rw (off, e)

pub length-fixed : (code : List ℕ) → length (fixed_fields code) ≡ 12
unfolding fixed_fields
length-fixed code = choice (λ (l : List ℕ). length l ≡ 12) (same code session_started) (λ _. refl) (λ _. refl)

-- a part of a list, by its place and its length, and what comes after it
part : (k n : ℕ) (r a b : List ℕ) → drop k r ≡ a ++ b → length a ≡ n → (take n (drop k r) ≡ a) × (drop (k + n) r ≡ b)
part k n r a b e size = (
  ap (take n) e ∙ take_at a b n size,
  sym (drop-drop n k r) ∙ ap (drop n) e ∙ drop_at a b n size,
)

module _ (fault : Bool) (v : Verdict) (system device : List ℕ) (s : is_name system_limit system ≡ true) (d : is_name device_limit device ≡ true) where
  abbrev r : List ℕ
  r = response_of fault v system device

  -- the fields after the first four bytes
  abbrev fixed-field : List ℕ
  fixed-field = fixed_fields (code_of fault v)

  abbrev code-field : List ℕ
  code-field = ebcdic_of (code_of fault v)

  abbrev system-field : List ℕ
  system-field = filled blank system_limit (ebcdic_of system)

  abbrev device-field : List ℕ
  device-field = filled blank device_limit (ebcdic_of device)

  -- what comes after each of them
  abbrev after-device : List ℕ
  after-device = replicate 35 0

  abbrev after-system : List ℕ
  after-system = device-field ++ after-device

  abbrev after-code : List ℕ
  after-code = system-field ++ after-system

  abbrev after-fixed : List ℕ
  after-fixed = code-field ++ after-code

  after-four : drop 4 r ≡ fixed-field ++ after-fixed
  unfolding response_of joined fields
  after-four = refl

  -- each field at its place, and what comes after it
  fixed-part : (fixed_at r ≡ fixed-field) × (drop 16 r ≡ after-fixed)
  fixed-part = part 4 12 r fixed-field after-fixed after-four (length-fixed (code_of fault v))

  code-part : (code_at r ≡ code-field) × (drop 20 r ≡ after-code)
  code-part = part 16 4 r code-field after-code fixed-part.1 (length-code fault v)

  system-part : (take 8 (drop 20 r) ≡ system-field) × (drop 28 r ≡ after-system)
  system-part = part 20 8 r system-field after-system code-part.1 (length-ebcdic system_limit system s)

  device-part : (take 10 (drop 28 r) ≡ device-field) × (drop 38 r ≡ after-device)
  device-part = part 28 10 r device-field after-device system-part.1 (length-ebcdic device_limit device d)

  -- what the record says passes the test, and the test says it of the record
  test : (code : List ℕ) → Says r code → T (Test fault v code)
  test code e = subst (λ l. T (same code-field l)) (sym code-part.0 ∙ e) (same_refl code-field)

  says-code : (code : List ℕ) {P : Type 0} → T (Test fault v code) ↔ P → Says r code ↔ P
  says-code code i = (
    λ e. i.0 (test code e),
    λ p. code-part.0 ∙ same-sound code-field (ebcdic_of code) (i.1 p),
  )

  pub length-response : length r ≡ 73
  length-response = omega (arith, length-drop 38 r, ap length device-part.1)

  says-length : take 2 r ≡ bytes 2 73
  unfolding response_of joined fields bytes
  says-length = refl

  on-the-line : (bs : List ℕ) → record_of (written_all (run r ∷ command eor ∷ []) ++ bs) ≡ complete r (length (doubled r) + 2)
  unfolding written written_all
  on-the-line bs = rw append_assoc (record-reads-back r bs)

  pub responds : Responds fault v system device r
  responds =
      let success = says-code session_started (started fault v) in
      record {
        size = length-response;
        says = says-length;
        system_name = system-part.0 ∙ filled-ebcdic system_limit system;
        device_name = device-part.0 ∙ filled-ebcdic device_limit device;
        tail = device-part.1;
        reads_back = on-the-line;
        device_fault = says-code device_not_available (device-fault fault v);
        not_known = says-code (digits_of NotKnown) (digits fault v NotKnown tt);
        disabled = says-code (digits_of Disabled) (digits fault v Disabled tt);
        failed = says-code (digits_of Failed) (digits fault v Failed tt);
        success = success;
        succeeds = λ e. fixed-part.0 ∙ figure-1 fault v ((started fault v).0 (test session_started e));
        fails = λ never. fixed-part.0 ∙ figure-2 fault v (λ t. never (success.1 ((started fault v).0 t)));
      }

pub responses-are-right : ResponsesAreRight
responses-are-right fault v system device s d =
    responds fault v system device (is_true (is_name system_limit system) s) (is_true (is_name device_limit device) d)

pub figures : Figures
unfolding response_of joined fields fixed_fields code_of same filled ebcdic raised_byte bytes
figures = record { first = refl; second = refl }
