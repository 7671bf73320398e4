-- A call that takes a fragment refuses by 4 alone, and then changes nothing; from C too. Assumes nothing.
use Rattle.std.specs.Prelude.{Option, None, Some}
use Rattle.refusal.specs.declared.Refusal.{Refusal}
use Rattle.refusal.specs.declared.Refusal.TheVariants.{NoRoom}
use Rattle.refusal.specs.RefusedBy.{number_or_0}
use Rattle.refusal.proofs.Apart.{by-its-number}
use native.Mathlib.Omega.{arith}
use mathlib.Core.Path.{◌≡◌, sym, ap, ◌∙◌}
use mathlib.Core.Bool.{true}
use mathlib.Core.List.{List, [], ◌∷◌}
use Prim.Native.Nat.{ℕ}
use lib.Dec.{T, eqb}
use borrow.Author.Tests.{eqb-true}
use Rattle.octets.proofs.Choice.{choice}
use Rattle.telnet_fragments.specs.declared.Reader.{Reader}
use Rattle.telnet_fragments.specs.declared.Taken.{Taken}
use Rattle.telnet_fragments.specs.Promise.{Fed}
use Rattle.telnet_fragments.specs.Chain.{Made, Promised}
use Rattle.telnet_fragments.specs.Theorems.{Idle}
use Rattle.telnet_fragments.proofs.Ending.{numbers-given, stays-as-it-was}
use Rattle.export_reader.specs.declared.TvReader.{TvReader}
use Rattle.export_reader.specs.declared.TvFed.{TvFed}
use Rattle.export_reader.specs.Numbers.{reader_named, FedByNumbers}
use Rattle.export_reader.proofs.Named.{refused-back}
use Rattle.claims.specs.Refusals.{one_of, Refuses, by_feed}

-- 4 is the number of one refusal alone
only-no-room : (r : Option Refusal) → number_or_0 r ≡ 4 → r ≡ Some NoRoom
only-no-room None e = absurd (omega (arith, e))
only-no-room (Some why) e = ap Some (by-its-number why NoRoom e)

-- 4 is told only where the room is short, and then nothing was done
idle-by-four : (c : Made) → Promised c → number_or_0 c.answer.refusal ≡ 4 → Idle c (Some NoRoom)
idle-by-four c p e = (stays-as-it-was c p).refused ((numbers-given c p).short.0 (only-no-room c.answer.refusal e))

four : (n : ℕ) → eqb n 4 ≡ true → T (one_of (4 ∷ []) n)
unfolding one_of
four n e = rw e tt

pub feeds : (c : Made) → Promised c
    → Refuses (4 ∷ []) {L = Reader × (List ℕ × List ℕ)} (c.reader, (c.kept, c.room)) (c.answer.reader, (c.keeps, c.left)) (by_feed (number_or_0 c.answer.refusal))
feeds c p =
    choice (Refuses (4 ∷ []) {L = Reader × (List ℕ × List ℕ)} (c.reader, (c.kept, c.room)) (c.answer.reader, (c.keeps, c.left))) (eqb (number_or_0 c.answer.refusal) 4)
    (λ e.
    let i = idle-by-four c p (eqb-true (number_or_0 c.answer.refusal) 4 e) in
    (four (number_or_0 c.answer.refusal) e, rw (ap (λ (t : Taken). t.reader) i.answered, i.kept, i.room)))
    (λ _. tt)

pub reader-feeds : (given : TvReader) (kept fragment room : List ℕ) (r : TvFed) (keeps left : List ℕ) → FedByNumbers given kept fragment room r keeps left
    → Refuses (4 ∷ []) {L = TvReader × (List ℕ × List ℕ)} (given, (kept, room)) (r.reader, (keeps, left)) (by_feed r.number)
reader-feeds given kept fragment room r keeps left f =
    let t = f.0 in
    let p : Fed (reader_named given) kept fragment room t keeps left = f.1 in
    let c : Made = record { reader = reader_named given; kept = kept; fragment = fragment; room = room; answer = t; keeps = keeps; left = left } in
    choice (Refuses (4 ∷ []) {L = TvReader × (List ℕ × List ℕ)} (given, (kept, room)) (r.reader, (keeps, left))) (eqb r.number 4)
    (λ e.
    let n : number_or_0 t.refusal ≡ 4 = sym (ap (λ (x : TvFed). x.number) f.2) ∙ eqb-true r.number 4 e in
    let i = idle-by-four c p n in
    let b : r.reader ≡ given = ap (λ (x : TvFed). x.reader) f.2 ∙ sym (refused-back given kept fragment room t keeps left p (only-no-room t.refusal n)) in
    (four r.number e, rw (b, i.kept, i.room)))
    (λ _. tt)
