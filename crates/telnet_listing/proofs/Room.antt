-- What is printed fits the room (`fits`, the theorem `Printed.Fits`): line by line, against the bytes of each event.
-- `printed` in its two cases. Assumes nothing.
use mathlib.Core.Path.{◌≡◌, refl, sym, ap}
use mathlib.Core.List.{List, [], ◌∷◌}
use mathlib.Core.Logic.{⊎_elim}
use Prim.Native.Nat.{ℕ, zero, suc, ◌+◌, ◌*◌, ◌≤◌, ◌<◌}
use native.Mathlib.Omega.{arith}
use lib.Dec.{eqb, ltb}
use lib.ListN.{length, drop, length-append, length-drop}
use lib.Seq.{get_or-drop}
use borrow.Author.Tests.{lt-ltb, le-ltb}
use Rattle.octets.specs.Ascii.{ascii}
use Rattle.octets.specs.Bytes.{Bytes}
use Rattle.octets.specs.Decimal.{decimal}
use Rattle.octets.proofs.Choice.{choice}
use Rattle.octets.proofs.Decimal.{length-decimal-short, length-decimal-lt}
use Rattle.octets.proofs.Order.{below-or-above}
use Rattle.refusal.specs.Refusal.{number}
use Rattle.telnet.specs.declared.Verb.{Verb}
use Rattle.telnet.specs.declared.Verb.TheVariants.{Will, Wont, Do, Dont}
use Rattle.telnet.specs.declared.Lead.{Lead}
use Rattle.telnet.specs.declared.Lead.TheVariants.{Faulty, Opens, Negotiates, Simple}
use Rattle.telnet.specs.Event.{Event, run, command, negotiation, subnegotiation, kind, carried_bytes, lead, eor, se, payload_limit}
use Rattle.telnet.specs.Write.{doubled, written}
use Rattle.telnet.specs.Read.{data_run, Front, no_event, found, refused, closed, after_sb, after_verb, after_lead, after_iac, run_or, event_of}
use Rattle.telnet_reader.specs.Promise.{answered}
use Rattle.telnet_reader.proofs.Places.{looked}
use Rattle.telnet.proofs.Stretch.{doubled-longer}
use Rattle.telnet_reader.proofs.Carried.{Carries, none, not_found, carries, event-carries}
use Rattle.telnet_line.specs.Line.{said, verb_name, command_text, text, ending_text, answer_text_by, answer_text, line}
use Rattle.telnet_listing.specs.Listing.{listing}
use Rattle.telnet_listing.specs.Printed.{limit, printed, Fits}
use Rattle.telnet_listing.proofs.Lines.{lines_at, lines-all, after, found_in, turn-length}

-- a run has data, and the number that another event names is a byte
abbrev Small : Event → Type 0
Small (run d) = 0 < length d
Small (command c) = c < 256
Small (negotiation v o) = o < 256
Small (subnegotiation o p) = o < 256

-- what is at the front of bytes: a small event, or a refusal by a number of one digit
abbrev Plain : Front → Type 0
Plain no_event = Unit {0}
Plain (found e) = Small e
Plain (refused why) = number why < 10

closed-plain : (o : ℕ) (p rest : List ℕ) → o < 256 → Plain (closed o p rest)
unfolding closed
closed-plain o p [] h = omega arith
closed-plain o p (x ∷ []) h = omega arith
closed-plain o p (x ∷ y ∷ rest) h = choice Plain (eqb y se) (λ _. h) (λ _. omega arith)

led-plain : (l : Lead) (c : ℕ) (bs : List ℕ) → c < 256 → Bytes bs → Plain (after_lead l c bs)
unfolding after_lead after_sb after_verb
led-plain Faulty c bs h g = omega arith
led-plain Opens c [] h g = omega arith
led-plain Opens c (o ∷ bs) h g =
    choice Plain (ltb payload_limit (length (data_run bs))) (λ _. omega arith) (λ _. closed-plain o _ _ (g 0))
led-plain (Negotiates v) c [] h g = omega arith
led-plain (Negotiates v) c (o ∷ bs) h g = g 0
led-plain Simple c bs h g = h

commanded-plain : (bs : List ℕ) → Bytes bs → Plain (after_iac bs)
unfolding after_iac
commanded-plain [] g = omega arith
commanded-plain (c ∷ bs) g = led-plain (lead c) c bs (g 0) (λ i. g (suc i))

event-plain : (bs : List ℕ) → Bytes bs → Plain (event_of bs)
unfolding event_of run_or
event-plain [] g = tt
event-plain (b ∷ bs) g = go (data_run (b ∷ bs))
  where
    go : (d : List ℕ) → Plain (run_or d (after_iac bs))
    go [] = commanded-plain bs (λ i. g (suc i))
    go (x ∷ d) = omega arith

length-said : (word : List ℕ) (n : ℕ) → length (said word n) ≡ length word + (1 + length (decimal n))
unfolding said
length-said word n = simp length-append (omega arith)

length-line : (place : ℕ) (words : List ℕ) → length (line place words) ≡ length (decimal place) + length words + 2
unfolding line
length-line place words = simp (length-append, length-append) (omega arith)

verb-short : (v : Verb) → length (verb_name v) ≤ 4
verb-short Will = omega arith
verb-short Wont = omega arith
verb-short Do = omega arith
verb-short Dont = omega arith

-- what is said of an event, with a place of five digits, a blank and a line end
text-short : (e : Event) → Small e → length (written e) ≤ limit
    → length (text (kind e) (length (carried_bytes e))) + 7 ≤ 13 * length (written e)
unfolding text command_text written
text-short (run d) h w =
    let l = doubled-longer d in
    let t = length-said (ascii "DATA") (length d) in
    ⊎_elim (λ s. omega (arith, l, t, length-decimal-lt 0 (length d) s))
    (λ s. omega (arith, l, t, length-decimal-lt 4 (length d) (omega (arith, l)))) (below-or-above (length d) 10)
text-short (command c) h w =
    choice (λ t. length t + 7 ≤ 26) (eqb c eor) {x = ascii "EOR"} {y = said (ascii "CMD") c} (λ _. omega arith)
    (λ _. omega (arith, length-said (ascii "CMD") c, length-decimal-lt 2 c (omega arith)))
text-short (negotiation v o) h w = omega (arith, length-said (verb_name v) o, verb-short v, length-decimal-lt 2 o (omega arith))
text-short (subnegotiation o d) h w =
    let k : length (written (subnegotiation o d)) ≡ length (doubled d) + 5 = simp length-append (omega arith) in
    let l = doubled-longer d in
    omega
    (arith, k, l, length-said (said (ascii "SUB") o) (length d), length-said (ascii "SUB") o, length-decimal-lt 2 o (omega arith), length-decimal-lt 4 (length d) (omega (arith, k, l)))

module _ (s : List ℕ) (g : Bytes s) (most : length s ≤ limit) where
  place_short : (i : ℕ) → i ≤ length s → length (decimal i) ≤ 5
  place_short i h = length-decimal-lt 4 i (omega arith)

  bytes-from : (i : ℕ) → Bytes (drop i s)
  bytes-from i j = rw get_or-drop (g (i + j))

  -- the lines from a place on, against the bytes there
  abbrev Bound : ℕ → Type 0
  Bound i = length (lines_at s i) + 13 * i ≤ 13 * length s + 16

  turn-short : (i : ℕ) → i ≤ length s → ((j : ℕ) → i < j → j ≤ length s → Bound j) → Bound i
  unfolding answered answer_text_by ending_text
  turn-short i h further =
      omega (arith, turn-length s i h (sym (looked s i h)) refl, go (event_of (drop i s)) (event-carries (drop i s)) (event-plain (drop i s) (bytes-from i)))
    where
      go : (f : Front) → Carries (drop i s) f → Plain f
          → length (line i (answer_text (answered i f))) + length (after s (found_in (answered i f))) + 13 * i ≤ 13 * length s + 16
      go _ none p = omega (arith, length-line i (ascii "END"), place_short i h)
      go (refused why) not_found p =
          let w = ascii "REFUSED" in
          omega (arith, length-line i (said w (number why)), length-said w (number why), length-decimal-short (number why) p, place_short i h)
      go (found e) (carries c) p =
          let w = length-drop i s in
          let t = text (kind e) (length (carried_bytes e)) in
          omega
          (arith, length-line i t, text-short e p (omega (arith, c.within, w)), place_short i h, further (i + length (written e)) (omega (arith, c.positive)) (omega (arith, c.within, w)))

  lines-short : (k i : ℕ) → i ≤ length s → length s ≤ i + k → Bound i
  lines-short zero i h w = turn-short i h (λ j u v. absurd (omega arith))
  lines-short (suc k) i h w = turn-short i h (λ j u v. lines-short k j v (omega arith))

module _ (bs : List ℕ) where
  pub printed-long : limit < length bs → printed bs ≡ ascii "TOO LONG\n"
  unfolding printed
  printed-long h = rw (lt-ltb limit (length bs) h)

  pub printed-listed : length bs ≤ limit → printed bs ≡ listing bs
  unfolding printed
  printed-listed h = rw (le-ltb limit (length bs) h)

pub fits : Fits
fits bs g =
    ⊎_elim (λ h. omega (arith, ap length (printed-long bs h)))
    (λ h. omega (arith, ap length (printed-listed bs h), ap length (lines-all bs), lines-short bs g h (length bs) 0 (omega arith) (omega arith)))
    (below-or-above limit (length bs))
