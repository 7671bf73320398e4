-- The option rules as a table: a row for each state, a column for each call (specification, "Option rules"; RFC 1143,
-- "The Q Method", where the states are NO, YES, WANTNO with an empty or an opposite queue, and WANTYES with an empty or
-- an opposite queue).
use Rattle.std.specs.Prelude.{ℕ, Bool, true, false, eqb, if◌then◌else◌, None, Some}
use Rattle.option_rules.specs.declared.Command.{Command}
use Rattle.option_rules.specs.declared.Command.TheVariants.{On as on, Off as off}
use Rattle.option_rules.specs.declared.Side.{Side}
use Rattle.option_rules.specs.declared.Side.TheVariants.{Off, On, WantOff, WantOffThenOn, WantOn, WantOnThenOff}
use Rattle.option_rules.specs.declared.Step.{Step}
use Rattle.refusal.specs.declared.Refusal.{Refusal}
use Rattle.refusal.specs.declared.Refusal.TheVariants.{NotCarried, AlreadySo, UnderWay, AlreadyQueued, OffAnsweredByOn}

-- a cell: the successor alone, with a command to send, or with a note; or a refusal
infix 6 ◌send◌
infix 6 ◌note◌
pub data Cell : Type 0 where
  to : Side → Cell
  ◌send◌ : Side → Command → Cell
  ◌note◌ : Side → Refusal → Cell
  refuse : Refusal → Cell

infix 5 accept◌decline◌
abbrev pub accept◌decline◌ : Cell → Cell → Bool → Cell
accept◌decline◌ x y true = x
accept◌decline◌ x y false = y

-- a cell that is the same for both
abbrev pub both : Cell → Bool → Cell
both x accepting = x

pub record Row : Type 0 where
  pub receive_on : Bool → Cell
  pub receive_off : Cell
  pub request_on : Cell
  pub request_off : Cell

abbrev pub row : (Bool → Cell) → Cell → Cell → Cell → Row
row a b c d = record { receive_on = a; receive_off = b; request_on = c; request_off = d }

-- For an option that is carried: the specification's table, row by row. AlreadySo is 11, UnderWay 12, AlreadyQueued 13,
-- OffAnsweredByOn 14.
abbrev pub table : Side → Row
-- | State | receive on | receive off | request on | request off |
-- | Off | accept: On, send on; decline: Off, send off | Off | WantOn, send on | 11 |
table Off = row (accept On send on decline Off send off) (to Off) (WantOn send on) (refuse AlreadySo)
-- | On | On | Off, send off | 11 | WantOff, send off |
table On = row (both (to On)) (Off send off) (refuse AlreadySo) (WantOff send off)
-- | WantOff | Off, note 14 | Off | WantOffThenOn | 12 |
table WantOff = row (both (Off note OffAnsweredByOn)) (to Off) (to WantOffThenOn) (refuse UnderWay)
-- | WantOffThenOn | On, note 14 | WantOn, send on | 13 | WantOff |
table WantOffThenOn = row (both (On note OffAnsweredByOn)) (WantOn send on) (refuse AlreadyQueued) (to WantOff)
-- | WantOn | On | Off | 12 | WantOnThenOff |
table WantOn = row (both (to On)) (to Off) (refuse UnderWay) (to WantOnThenOff)
-- | WantOnThenOff | WantOff, send off | Off | WantOn | 13 |
table WantOnThenOff = row (both (WantOff send off)) (to Off) (to WantOn) (refuse AlreadyQueued)

-- For one that is not: "on is answered off, off is answered by silence, and its state is always off"; a request is
-- refused with 10.
abbrev pub untouched : Side → Row
untouched s = row (both (Off send off)) (to Off) (refuse NotCarried) (refuse NotCarried)

-- TRANSMIT-BINARY, SUPPRESS-GO-AHEAD, TERMINAL-TYPE, END-OF-RECORD, NEW-ENVIRON
abbrev pub binary : ℕ
binary = 0

abbrev pub suppress_go_ahead : ℕ
suppress_go_ahead = 3

abbrev pub terminal_type : ℕ
terminal_type = 24

abbrev pub end_of_record : ℕ
end_of_record = 25

abbrev pub new_environ : ℕ
new_environ = 39

-- one of five by the option, "0, 3, 24, 25, 39", or a sixth for an option that is not carried
unfoldable pub choose : {A : Type 0} → ℕ → A → A → A → A → A → A → A
choose o b g t r e none =
    if eqb o binary then b else
    if eqb o suppress_go_ahead then g else
    if eqb o terminal_type then t else
    if eqb o end_of_record then r else
    if eqb o new_environ then e else
    none

unfoldable pub carried : ℕ → Bool
carried o = choose o true true true true true false

unfoldable pub rules_of : ℕ → Side → Row
rules_of o = if carried o then table else untouched

-- what a call gives a side whose cell this is: a refusal hands the state back as it was given, with nothing to send
abbrev pub step_by : Side → Cell → Step
step_by s (to t) = record { side = t; refusal = None; sends = None }
step_by s (t send c) = record { side = t; refusal = None; sends = Some c }
step_by s (t note e) = record { side = t; refusal = Some e; sends = None }
step_by s (refuse e) = record { side = s; refusal = Some e; sends = None }

-- what a side gives when it receives on or off, and when on or off is requested of it
abbrev pub on_receive : (Side → Row) → Side → Bool → Command → Step
on_receive rules s accepting on = step_by s ((rules s).receive_on accepting)
on_receive rules s accepting off = step_by s (rules s).receive_off

abbrev pub on_request : (Side → Row) → Side → Command → Step
on_request rules s on = step_by s (rules s).request_on
on_request rules s off = step_by s (rules s).request_off
