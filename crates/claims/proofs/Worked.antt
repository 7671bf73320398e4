-- The worked lines: short inputs by computation, payloads of 1,024 and 1,025 bytes by the length of what is written.
-- Assumes nothing.
use mathlib.Core.Path.{◌≡◌, refl, ap, subst⁻¹}
use mathlib.Core.Bool.{Bool}
use mathlib.Core.List.{[], ◌∷◌, ◌++◌, append-nil}
use Prim.Native.Nat.{ℕ, zero, suc, ◌+◌, ◌≤◌, ◌<◌}
use native.Mathlib.Omega.{arith}
use lib.ListN.{length, replicate}
use borrow.Author.Tests.{le-ltb}
use Rattle.refusal.specs.declared.Refusal.TheVariants.{PayloadTooLong, NotIsOrInfo, BadTable}
use Rattle.names.specs.Name.{raised_byte}
use Rattle.names.specs.Padding.{filled}
use Rattle.names.specs.Ebcdic.{ebcdic}
use Rattle.password_des.specs.Des.{folded, user_id}
use Rattle.env.specs.Variable.{IS, is_first, is_kind, among, repeated}
use Rattle.env.specs.Fields.{row_of}
use Rattle.env.specs.Read.{says, not_read, names, expect_no_text, variables_of, distinct, begun, reading_of}
use Rattle.env.specs.Write.{escaped, written_value, written_variable, written_variables, payload_of, kinds_good, is_empty, nameless, objection}
use Rattle.env.proofs.Rows.{escaped-nil, escaped-plain}
use Rattle.env.proofs.Limits.{reading-long}
use Rattle.env.proofs.ReadingBack.{reads-back}
use Rattle.telnet.specs.Event.{lead, payload_limit}
use Rattle.telnet.specs.Write.{doubled}
use Rattle.telnet.specs.Read.{data_run, closed, after_sb, after_lead, after_iac, run_or, event_of}
use Rattle.option_rules.specs.declared.Side.{Side}
use Rattle.option_rules.specs.Table.{Row, table}
use Rattle.option_rules.proofs.Chosen.{rules-carried}
use Rattle.option_ends.specs.Ends.{End, near, far, other, at, taken, call_result, sent_by, stepped, changed, move, after, count_where}
use Rattle.option_ends.specs.Ends.{is_command, sends, same}
use Rattle.print_frame.specs.Frame.{goes, is_flow, direction_of, is_reserved, is_operation, operation_of, header_of, frame_of}
use Rattle.profile.specs.Table.{profiles, table_refused, unless_end, profiles_from, table_of}
use Rattle.claims.specs.Worked.{is_read, both_request_on, is_table, Holds, AllHold, lines}
use Rattle.claims.specs.Worked.{two_requests, sends_at, RestOn, letters_a}

none_said : Holds (is_read (0 ∷ []) (says IS []))
unfolding is_first repeated row_of names expect_no_text variables_of distinct begun reading_of
none_said = refl

nothing_said : Holds (is_read [] (not_read NotIsOrInfo))
unfolding begun reading_of
nothing_said = refl

-- bytes above 3 have no ESC
plain-length : (n b : ℕ) → 3 < b → length (escaped (replicate n b)) ≡ n
plain-length zero b h = rw escaped-nil
plain-length (suc n) b h = rw (escaped-plain b (replicate n b) h) (ap suc (plain-length n b h))

letters-length : (n : ℕ) → length (payload_of IS (letters_a n)) ≡ 4 + n
unfolding escaped written_value written_variable written_variables
letters-length n =
    let e : length (escaped (replicate n 0x41) ++ []) ≡ n = rw append-nil (plain-length n 0x41 (omega arith)) in
    omega arith

letters-read : (n : ℕ) → 4 + n ≤ payload_limit → Holds (is_read (payload_of IS (letters_a n)) (says IS (letters_a n)))
unfolding is_first is_kind kinds_good is_empty nameless among repeated objection
letters-read n h =
    let short : length (payload_of IS (letters_a n)) ≤ payload_limit = omega (arith, letters-length n) in
    reads-back IS (letters_a n) (record { begins = tt; kinds = tt; unobjected = rw le-ltb })

letters-refused : (n : ℕ) → payload_limit < 4 + n → Holds (is_read (payload_of IS (letters_a n)) (not_read PayloadTooLong))
letters-refused n h = reading-long (payload_of IS (letters_a n)) (omega (arith, letters-length n))

computed : (x y : End) (a b : Bool) → RestOn table (two_requests x y a b)
unfolding two_requests other after count_where move changed stepped sent_by call_result taken at sends_at same sends is_command
computed near near a b = record { near_sends_one = refl; far_sends_one = refl; rest_on = refl }
computed near far a b = record { near_sends_one = refl; far_sends_one = refl; rest_on = refl }
computed far near a b = record { near_sends_one = refl; far_sends_one = refl; rest_on = refl }
computed far far a b = record { near_sends_one = refl; far_sends_one = refl; rest_on = refl }

both-request-on : Holds both_request_on
both-request-on option c x y a b =
    subst⁻¹ (λ (r : Side → Row). RestOn r (two_requests x y a b)) (rules-carried option c) (computed x y a b)

empty-table : Holds (is_table (0x01 ∷ []) (profiles []))
unfolding table_of profiles_from unless_end
empty-table = refl

other-version : Holds (is_table (0x02 ∷ []) (table_refused BadTable))
unfolding table_of
other-version = refl

pub all_hold : AllHold lines
unfolding raised_byte filled ebcdic folded user_id escaped event_of run_or after_iac after_lead lead after_sb closed data_run doubled goes is_flow direction_of is_reserved is_operation operation_of header_of frame_of
all_hold = (
  refl,
  (
    refl,
    (
      refl,
      (
        refl,
        (
          none_said,
          (
            nothing_said,
            (
              refl,
              (
                refl,
                (
                  refl,
                  (refl, (refl, (letters-read 1020 (omega arith), (letters-refused 1021 (omega arith), (both-request-on, (refl, (refl, (empty-table, (other-version, tt))))))))),
                ),
              ),
            ),
          ),
        ),
      ),
    ),
  ),
)
