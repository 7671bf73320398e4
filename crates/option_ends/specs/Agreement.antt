-- Demand 3, clause by clause, in the owner's words: what holds of two ends under our option rules after every list of
-- calls; and that its bound is attained. The proofs are in `proofs/Agreement.antt` and `proofs/Attained.antt`.
use Rattle.std.specs.Prelude.{◌≡◌, ◌⊎◌, Bool, true, List, [], ◌∷◌, ◌++◌, ℕ, ◌*◌, ◌≤◌, T, ltb, length, if◌then◌else◌}
use Rattle.option_rules.specs.declared.Command.TheVariants.{On as on, Off as off}
use Rattle.option_rules.specs.declared.Side.{Side}
use Rattle.option_rules.specs.declared.Side.TheVariants.{On, Off}
use Rattle.option_rules.specs.Table.{Row, carried, rules_of}
use Rattle.option_ends.specs.Ends.{End, near, far, other, Call, ◌does◌, request, receive, Ends, at, fresh, call_result, move, after, receipts_only}
use Rattle.option_ends.specs.Ends.{number_told, count_where, sends, granted, receipt, acceptance}

-- nothing is under way
abbrev pub Quiet : Ends → Type 0
Quiet t = (e : End) → (at t e).coming ≡ []

-- both ends are in one state
abbrev pub Both : Side → Ends → Type 0
Both s t = (e : End) → (at t e).state ≡ s

-- over the whole list, both ends together; a call sends at most one command
abbrev pub commands_sent : (Side → Row) → List Call → ℕ
commands_sent rules calls = count_where sends rules fresh calls

abbrev pub requests_not_refused : (Side → Row) → List Call → ℕ
requests_not_refused rules calls = count_where granted rules fresh calls

-- over a part of it, from where the ends stood
abbrev pub receipts_of_a_command : (Side → Row) → Ends → List Call → ℕ
receipts_of_a_command rules t calls = count_where receipt rules t calls

abbrev pub accepted : End → (Side → Row) → Ends → List Call → Bool
accepted e rules t calls = ltb 0 (count_where (acceptance e) rules t calls)

-- After one end's request for on: `begun` is where the ends stood then, and `later` are calls since, none of them a
-- request.
pub record Settles (rules : Side → Row) (begun : Ends) (asker : End) (later : List Call) : Type 0 where
  -- "That takes exactly two receipts of a command": there is never a third,
  pub never_three : receipts_of_a_command rules begun later ≤ 2
  -- there were two when nothing is under way again,
  pub exactly_two : Quiet (after rules begun later) → receipts_of_a_command rules begun later ≡ 2
  -- and from wherever the calls have led, receipts alone come to that;
  pub comes : (more : List Call) × T (receipts_only more) × Quiet (after rules begun (later ++ more))
  -- "and both are then on exactly if the other end accepted, else both off."
  pub settled :
      Quiet (after rules begun later)
      → Both (if accepted (other asker) rules begun later then On else Off) (after rules begun later)

-- "For every list of these calls, in whatever order the ends make them, this holds after it."
pub record Agreed (rules : Side → Row) (calls : List Call) : Type 0 where
  -- "At most two commands are under way in each direction."
  pub at_most_two : (e : End) → length (at (after rules fresh calls) e).coming ≤ 2
  -- "When none is, both ends rest, both on or both off."
  pub rest : Quiet (after rules fresh calls) → Both On (after rules fresh calls) ⊎ Both Off (after rules fresh calls)
  -- "All commands sent are at most twice the requests not refused."
  pub sent_at_most_twice : commands_sent rules calls ≤ 2 * requests_not_refused rules calls
  -- "After any list that leaves both off and nothing under way, let one end request on, with no other request until
  -- nothing is under way again."
  pub one_request :
      Both Off (after rules fresh calls)
      → Quiet (after rules fresh calls)
      → (asker : End) (later : List Call)
      → T (receipts_only later)
      → Settles rules (after rules fresh (calls ++ (asker does request on) ∷ [])) asker later

-- "Take one carried option on one side and two ends under our option rules, both fresh, with nothing under way."
abbrev pub Demand3 : Type 0
Demand3 = (option : ℕ) → T (carried option) → (calls : List Call) → Agreed (rules_of option) calls

-- A list with every refusal in it: near requests off (11), on, on again (12), off, which is queued, and off again (13);
-- then what is under way is received, each time accepting.
abbrev pub every_refusal : List Call
every_refusal =
    (near does request off) ∷ (near does request on) ∷ (near does request on) ∷ (near does request off) ∷ (near does request off)
    ∷ (far does receive true) ∷ (near does receive true) ∷ (far does receive true) ∷ (near does receive true) ∷ []

-- the number that each call tells, one after the other
unfoldable pub numbers_told : (Side → Row) → Ends → List Call → List ℕ
numbers_told rules t [] = []
numbers_told rules t ((e does a) ∷ ks) = number_told (call_result rules (at t e) a) ∷ numbers_told rules (move rules t (e does a)) ks

-- "at most twice" is attained, with refused requests in the list: four commands are sent for two requests that are not
-- refused
pub record Attained (rules : Side → Row) : Type 0 where
  pub told : numbers_told rules fresh every_refusal ≡ 11 ∷ 0 ∷ 12 ∷ 0 ∷ 13 ∷ 0 ∷ 0 ∷ 0 ∷ 0 ∷ []
  pub sent : commands_sent rules every_refusal ≡ 4
  pub not_refused : requests_not_refused rules every_refusal ≡ 2
  pub quiet : Quiet (after rules fresh every_refusal)

abbrev pub BoundAttained : Type 0
BoundAttained = (option : ℕ) → T (carried option) → Attained (rules_of option)
