-- Every list of calls from fresh is heard back as `Theorems.HeardBack` says, by induction on the list: each call keeps
-- the balance of what was accepted with what was completed, cleared and is held. Assumes nothing.
use Rattle.std.specs.Prelude.{if◌then◌else◌, Result, Ok, Err}
use mathlib.Core.Path.{◌≡◌, refl}
use mathlib.Core.Bool.{Bool, true, false, not, ◌&&◌}
use mathlib.Core.Logic.{◌↔◌}
use mathlib.Core.List.{List, [], ◌∷◌}
use Prim.Native.Nat.{ℕ, ◌+◌, ◌≤◌}
use native.Mathlib.Omega.{arith}
use lib.Dec.{T, eqb}
use lib.ListN.{length}
use Rattle.octets.specs.Lent.{Outcome, overwrite}
use Rattle.octets.proofs.Promise.{front-either}
use Rattle.refusal.specs.declared.Refusal.{Refusal}
use Rattle.refusal.specs.RefusedBy.{is_refused, refusal_number}
use Rattle.print_frame.specs.declared.Direction.{Direction}
use Rattle.print_frame.specs.declared.Direction.TheVariants.{Outbound, Inbound}
use Rattle.print_frame.specs.declared.Operation.{Operation}
use Rattle.print_frame.specs.declared.Operation.TheVariants.{Print, Clear}
use Rattle.print_frame.specs.declared.Frame.{Frame}
use Rattle.print_ledger.specs.declared.Ledger.{Ledger}
use Rattle.print_ledger.specs.declared.Completed.{Completed}
use Rattle.print_frame.specs.Frame.{frame_of}
use Rattle.print_ledger.specs.Ledger.{fresh, answered, take_frame, print_complete, complete_into}
use Rattle.print_ledger.specs.History.{Call, frame, completion, after, held_records, is_outbound, asks, is_print_frame, is_clear_frame, prints}
use Rattle.print_ledger.specs.History.{refused_call, accepts, clears, completes, one, count_calls, run}
use Rattle.print_ledger.specs.Theorems.{PrintsAreHeardBack}

abbrev is_taken : Ledger → Result Frame Refusal → Bool
is_taken l a = not (is_refused (refusal_number (answered l a).receipt))

-- what a frame makes of a ledger
record Stepped (l : Ledger) (a : Result Frame Refusal) : Type 0 where
  balanced : held_records l + one (asks Print a && is_taken l a) ≡ one (asks Clear a && eqb (held_records l) 1) + held_records (answered l a).ledger
  print-held : T (asks Print a) → held_records l ≡ 0 → T (asks Print a && is_taken l a) × (held_records (answered l a).ledger ≡ 1)
  clear-empties : T (asks Clear a) → T (is_taken l a) × (held_records (answered l a).ledger ≡ 0)
  kept : T (is_refused (refusal_number (answered l a).receipt)) → (answered l a).ledger ≡ l

-- a ledger by whether a record is held
abbrev marked : Bool → Ledger
marked h = record { held = h }

-- a frame with a direction and an operation in place of its own
abbrev turned : Frame → Direction → Operation → Frame
turned f d o = record {
  direction = d;
  diagnostics_included = f.diagnostics_included;
  flags = f.flags;
  operation = o;
  diagnostics = f.diagnostics;
  print_data = f.print_data;
}

read-stepped : (h : Bool) (f : Frame) (d : Direction) (o : Operation) → Stepped (marked h) (Ok (turned f d o))
unfolding held_records is_outbound asks
read-stepped h f Inbound o =
    record { balanced = omega arith; print-held = λ p. absurd p; clear-empties = λ c. absurd c; kept = λ r. refl }
read-stepped false f Outbound Print =
    record { balanced = refl; print-held = λ p h. (tt, refl); clear-empties = λ c. absurd c; kept = λ r. absurd r }
read-stepped true f Outbound Print =
    record { balanced = refl; print-held = λ p h. absurd (omega arith); clear-empties = λ c. absurd c; kept = λ r. refl }
read-stepped false f Outbound Clear =
    record { balanced = refl; print-held = λ p. absurd p; clear-empties = λ c. (tt, refl); kept = λ r. absurd r }
read-stepped true f Outbound Clear =
    record { balanced = refl; print-held = λ p. absurd p; clear-empties = λ c. (tt, refl); kept = λ r. absurd r }

stepped : (l : Ledger) (a : Result Frame Refusal) → Stepped l a
unfolding asks
stepped l (Ok f) = read-stepped l.held f f.direction f.operation
stepped l (Err e) =
    record { balanced = omega arith; print-held = λ p. absurd p; clear-empties = λ c. absurd c; kept = λ r. refl }

abbrev is_written : Outcome Completed → Bool
is_written o = not (is_refused (refusal_number o.answer.completion))

-- what a completion makes of a ledger and an output
record Ended (l : Ledger) (out : List ℕ) (o : Outcome Completed) : Type 0 where
  exactly : T (is_written o) ↔ ((held_records l ≡ 1) × (length print_complete ≤ length out))
  bytes : o.lent ≡ (if is_written o then overwrite out 0 print_complete else out)
  idle : T (is_written o) → held_records o.answer.ledger ≡ 0
  kept : T (is_refused (refusal_number o.answer.completion)) → o.answer.ledger ≡ l
  balanced : held_records l ≡ one (is_written o) + held_records o.answer.ledger

mark-ended : (h : Bool) (out : List ℕ) → Ended (marked h) out (complete_into (marked h) out)
unfolding held_records complete_into
mark-ended false out = record {
  exactly = (λ w. absurd w, λ h. absurd (omega arith));
  bytes = refl;
  idle = λ w. absurd w;
  kept = λ r. refl;
  balanced = refl;
}
mark-ended true out =
    front-either _ _ print_complete out (Ended (marked true) out)
    (λ e. record {
      exactly = (λ w. absurd w, λ h. absurd (omega (arith, e)));
      bytes = refl;
      idle = λ w. absurd w;
      kept = λ r. refl;
      balanced = refl;
    })
    (λ e. record {
      exactly = (λ w. (refl, e), λ h. tt);
      bytes = refl;
      idle = λ w. refl;
      kept = λ r. absurd r;
      balanced = refl;
    })

completion-ended : (l : Ledger) (out : List ℕ) → Ended l out (complete_into l out)
completion-ended l = mark-ended l.held

call-balanced : (l : Ledger) (k : Call) → held_records l + one (accepts l k) ≡ one (completes l k) + one (clears l k) + held_records (after l k)
unfolding after is_print_frame is_clear_frame prints refused_call accepts clears completes take_frame
call-balanced l (frame f) = omega (arith, (stepped l (frame_of f)).balanced)
call-balanced l (completion out) = omega (arith, (completion-ended l out).balanced)

call_kept : (l : Ledger) (k : Call) → T (refused_call l k) → after l k ≡ l
unfolding after refused_call take_frame
call_kept l (frame f) = (stepped l (frame_of f)).kept
call_kept l (completion out) = (completion-ended l out).kept

-- the balance from any ledger on
balance : (l : Ledger) (ks : List Call) → held_records l + count_calls accepts l ks ≡ count_calls completes l ks + count_calls clears l ks + held_records (run l ks)
unfolding count_calls run
balance l [] = omega arith
balance l (k ∷ ks) = omega (arith, call-balanced l k, balance (after l k) ks)

-- where nothing is held, nothing is completed until a print is accepted
none-without-print : (l : Ledger) (ks : List Call) → held_records l ≡ 0 → count_calls accepts l ks ≡ 0 → count_calls completes l ks ≡ 0
none-without-print l ks e none = omega (arith, balance l ks)

none-of-no : (b c : Bool) → T (not b) → one (b && c) ≡ 0
none-of-no true c n = absurd n
none-of-no false c n = refl

only-prints : (l : Ledger) (k : Call) → T (not (prints k)) → held_records l ≡ 0 → held_records (after l k) ≡ 0
unfolding accepts
only-prints l k n e = omega (arith, call-balanced l k, none-of-no (prints k) (not (refused_call l k)) n)

pub prints-are-heard-back : PrintsAreHeardBack
unfolding after held_records is_print_frame is_clear_frame prints refused_call accepts completes take_frame
prints-are-heard-back ks =
    let all = balance fresh ks in
    let l = run fresh ks in
    record {
      total = omega arith;
      at_most_one = omega arith;
      exactly = λ out. (completion-ended l out).exactly;
      bytes = λ out. (completion-ended l out).bytes;
      not-before = λ out w. omega (arith, ((completion-ended l out).exactly.0 w).0);
      once = λ out js w none. none-without-print (after l (completion out)) js ((completion-ended l out).idle w) none;
      print-held = λ f. (stepped l (frame_of f)).print-held;
      clear-empties = λ f. (stepped l (frame_of f)).clear-empties;
      only-prints = only-prints l;
      kept = call_kept l;
    }
