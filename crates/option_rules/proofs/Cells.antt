-- What a step by the rules tells: nothing, the note 14, or a refusal of 10 to 13, and a refusal leaves the side and
-- sends nothing. Assumes nothing.
use mathlib.Core.Path.{◌≡◌, refl, ap}
use mathlib.Core.Bool.{Bool, true, false}
use mathlib.Core.Logic.{◌⊎◌, inl, inr}
use Prim.Native.Nat.{ℕ, ◌≤◌}
use native.Mathlib.Omega.{arith}
use Rattle.octets.proofs.Choice.{choice}
use Rattle.std.specs.Prelude.{None}
use Rattle.refusal.specs.declared.Refusal.TheVariants.{OffAnsweredByOn}
use Rattle.refusal.specs.Refusal.{number}
use Rattle.refusal.specs.RefusedBy.{number_or_0}
use Rattle.option_rules.specs.declared.Command.{Command}
use Rattle.option_rules.specs.declared.Command.TheVariants.{On as on, Off as off}
use Rattle.option_rules.specs.declared.Side.{Side}
use Rattle.option_rules.specs.declared.Side.TheVariants.{Off, On, WantOff, WantOffThenOn, WantOn, WantOnThenOff}
use Rattle.option_rules.specs.declared.Step.{Step}
use Rattle.option_rules.specs.Table.{Cell, to, ◌send◌, ◌note◌, refuse, Row, table, untouched, carried, rules_of, step_by, on_receive, on_request}

abbrev Numbered : Cell → Type 0
Numbered (to t) = Unit {0}
Numbered (t send c) = Unit {0}
Numbered (t note e) = e ≡ OffAnsweredByOn
Numbered (refuse e) = (10 ≤ number e) × (number e ≤ 13)

pub record NumberedRow (r : Row) : Type 0 where
  pub receives_on : (accept : Bool) → Numbered (r.receive_on accept)
  pub receives_off : Numbered r.receive_off
  pub requests_on : Numbered r.request_on
  pub requests_off : Numbered r.request_off

table-numbered : (s : Side) → NumberedRow (table s)
table-numbered Off =
    record { receives_on = λ b. first b; receives_off = tt; requests_on = tt; requests_off = (omega arith, omega arith) }
  where
    first : (b : Bool) → Numbered ((table Off).receive_on b)
    first true = tt
    first false = tt
table-numbered On = record { receives_on = λ b. tt; receives_off = tt; requests_on = (omega arith, omega arith); requests_off = tt }
table-numbered WantOff = record { receives_on = λ b. refl; receives_off = tt; requests_on = tt; requests_off = (omega arith, omega arith) }
table-numbered WantOffThenOn = record { receives_on = λ b. refl; receives_off = tt; requests_on = (omega arith, omega arith); requests_off = tt }
table-numbered WantOn = record { receives_on = λ b. tt; receives_off = tt; requests_on = (omega arith, omega arith); requests_off = tt }
table-numbered WantOnThenOff = record { receives_on = λ b. tt; receives_off = tt; requests_on = tt; requests_off = (omega arith, omega arith) }

untouched-numbered : (s : Side) → NumberedRow (untouched s)
untouched-numbered s = record {
  receives_on = λ b. tt;
  receives_off = tt;
  requests_on = (omega arith, omega arith);
  requests_off = (omega arith, omega arith);
}

rules-numbered : (o : ℕ) (s : Side) → NumberedRow (rules_of o s)
unfolding rules_of
rules-numbered o =
    choice (λ (rules : Side → Row). (s : Side) → NumberedRow (rules s)) (carried o) (λ _. table-numbered) (λ _. untouched-numbered)

pub record Refuses (s : Side) (d : Step) : Type 0 where
  pub least : 10 ≤ number_or_0 d.refusal
  pub most : number_or_0 d.refusal ≤ 13
  pub side : d.side ≡ s
  pub silent : d.sends ≡ None

abbrev pub Tells : Side → Step → Type 0
Tells s d = (number_or_0 d.refusal ≡ 0) ⊎ ((number_or_0 d.refusal ≡ 14) ⊎ Refuses s d)

cell-tells : (s : Side) (e : Cell) → Numbered e → Tells s (step_by s e)
cell-tells s (to t) n = inl refl
cell-tells s (t send c) n = inl refl
cell-tells s (t note e) n = inr (inl (ap number n))
cell-tells s (refuse e) n = inr (inr (record { least = n.0; most = n.1; side = refl; silent = refl }))

pub receipt-tells : (o : ℕ) (s : Side) (accept : Bool) (c : Command) → Tells s (on_receive (rules_of o) s accept c)
receipt-tells o s accept on = cell-tells s ((rules_of o s).receive_on accept) ((rules-numbered o s).receives_on accept)
receipt-tells o s accept off = cell-tells s (rules_of o s).receive_off (rules-numbered o s).receives_off

pub request-tells : (o : ℕ) (s : Side) (c : Command) → Tells s (on_request (rules_of o) s c)
request-tells o s on = cell-tells s (rules_of o s).request_on (rules-numbered o s).requests_on
request-tells o s off = cell-tells s (rules_of o s).request_off (rules-numbered o s).requests_off
