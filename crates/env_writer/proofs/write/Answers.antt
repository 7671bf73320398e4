-- `env_writer::write` meets its contract: each test in its order, and then the payload. Assumes nothing.
use mathlib.Core.Path.{◌≡◌, sym, ◌∙◌}
use mathlib.Core.Bool.{true, false}
use Prim.Native.Nat.{◌/◌, ◌≤◌}
use native.Mathlib.Omega.{arith}
use lib.ListN.{length, length-set}
use Rattle.env.specs.Variable.{is_first, variable_limit, repeated}
use Rattle.env.specs.Write.{nameless}
use Rattle.env.specs.Numbers.{record_width, variables_held, placed}
use Rattle.env_writer.proofs.WritingAnswer.{not_first, not-placed, no_name, too_many, twice, too_long, no-space, space, wrote}
use Rattle.env_writer.proofs.write.Goals.{Else-any_nameless, Else-not-all_placed, Else-not-is_first, Else-repeats}
use Rattle.env_writer.proofs.write.Goals as goal

pub returns-then-not-is_first : goal.returns-then-not-is_first
returns-then-not-is_first c =
    let a = c.args in
    not_first a.first a.bytes.now a.numbers.now a.out.now (sym c.is_first.ensures ∙ c.if-not-is_first.true)

begins : (c : Else-not-is_first) → is_first c.args.first ≡ true
begins c =
    sym c.is_first.ensures ∙ c.if-not-is_first.false

pub returns-then-not-all_placed : goal.returns-then-not-all_placed
returns-then-not-all_placed c =
    let a = c.args in
    not-placed a.first a.bytes.now a.numbers.now a.out.now (begins (goal.at.returns-then-not-all_placed c).Else-not-is_first)
    (sym c.all_placed.ensures ∙ c.if-not-all_placed.true)

good : (c : Else-not-all_placed) → placed c.args.bytes.now c.args.numbers.now ≡ true
good c =
    sym c.all_placed.ensures ∙ c.if-not-all_placed.false

pub returns-then-any_nameless : goal.returns-then-any_nameless
returns-then-any_nameless c =
    let a = c.args in
    no_name a.first a.bytes.now a.numbers.now a.out.now (begins (goal.at.returns-then-any_nameless c).Else-not-is_first) (good (goal.at.returns-then-any_nameless c).Else-not-all_placed)
    (sym (c.any_nameless.ensures a.bytes.now (good (goal.at.returns-then-any_nameless c).Else-not-all_placed)) ∙ c.if-any_nameless.true)

named : (c : Else-any_nameless) → nameless (variables_held c.args.bytes.now c.args.numbers.now) ≡ false
named c =
    sym (c.any_nameless.ensures c.args.bytes.now (let it : placed c.args.bytes.now c.args.numbers.now ≡ true = sym c.all_placed.ensures ∙ c.if-not-all_placed.false in it)) ∙ c.if-any_nameless.false

pub returns-then-numbers-gt-VARIABLE_LIMIT : goal.returns-then-numbers-gt-VARIABLE_LIMIT
returns-then-numbers-gt-VARIABLE_LIMIT c =
    let a = c.args in
    too_many a.first a.bytes.now a.numbers.now a.out.now (begins (goal.at.returns-then-numbers-gt-VARIABLE_LIMIT c).Else-not-is_first) (good (goal.at.returns-then-numbers-gt-VARIABLE_LIMIT c).Else-not-all_placed) (named (goal.at.returns-then-numbers-gt-VARIABLE_LIMIT c).Else-any_nameless) (omega arith)

pub returns-then-repeats : goal.returns-then-repeats
returns-then-repeats c =
    let a = c.args in
    twice a.first a.bytes.now a.numbers.now a.out.now (begins (goal.at.returns-then-repeats c).Else-not-is_first) (good (goal.at.returns-then-repeats c).Else-not-all_placed) (named (goal.at.returns-then-repeats c).Else-any_nameless) c.if-numbers-gt-VARIABLE_LIMIT.false
    (sym c.repeats.ensures ∙ c.if-repeats.true)

-- all that is held against the records is, perhaps, the payload's length
record Cleared (c : Else-repeats) : Type 0 where
  begins : is_first c.args.first ≡ true
  good : placed c.args.bytes.now c.args.numbers.now ≡ true
  named : nameless (variables_held c.args.bytes.now c.args.numbers.now) ≡ false
  few : length c.args.numbers.now / record_width ≤ variable_limit
  distinct : repeated (variables_held c.args.bytes.now c.args.numbers.now) ≡ false

cleared : (c : Else-repeats) → Cleared c
cleared c =
    record {
      begins = sym c.is_first.ensures ∙ c.if-not-is_first.false;
      good = sym c.all_placed.ensures ∙ c.if-not-all_placed.false;
      named = sym (c.any_nameless.ensures c.args.bytes.now (sym c.all_placed.ensures ∙ c.if-not-all_placed.false)) ∙ c.if-any_nameless.false;
      few = c.if-numbers-gt-VARIABLE_LIMIT.false;
      distinct = sym c.repeats.ensures ∙ c.if-repeats.false;
    }

pub measure-length-requires : goal.measure-length-requires
measure-length-requires c = (cleared (goal.at.measure-length-requires c).Else-repeats).good

pub returns-then-length-gt-PAYLOAD_LIMIT : goal.returns-then-length-gt-PAYLOAD_LIMIT
returns-then-length-gt-PAYLOAD_LIMIT c =
    let a = c.args in
    let k = cleared (goal.at.returns-then-length-gt-PAYLOAD_LIMIT c).Else-repeats in
    too_long a.first a.bytes.now a.numbers.now a.out.now k.begins k.good k.named k.few k.distinct
    c.measure-length.result c.measure-length.ensures (omega arith)

pub returns-then-out-length : goal.returns-then-out-length
returns-then-out-length c =
    let a = c.args in
    let k = cleared (goal.at.returns-then-out-length c).Else-repeats in
    no-space a.first a.bytes.now a.numbers.now a.out.now k.begins k.good k.named k.few k.distinct
    c.measure-length.result c.measure-length.ensures c.if-length-gt-PAYLOAD_LIMIT.false (omega arith)

pub put_all-requires : goal.put_all-requires
put_all-requires c =
    let a = c.args in
    let k = cleared (goal.at.put_all-requires c).Else-repeats in record {
      all_placed = k.good;
      room = space a.first a.bytes.now a.numbers.now a.out.now k.begins k.good k.named k.few k.distinct
          c.measure-length.result c.measure-length.ensures c.if-length-gt-PAYLOAD_LIMIT.false c.if-out-length.false;
    }

pub shape_of-out : goal.shape_of-out
shape_of-out c = c.put_all.auto.out ∙ simp length-set

pub returns : goal.returns
returns c =
    let a = c.args in
    let k = cleared (goal.at.returns c).Else-repeats in
    wrote a.first a.bytes.now a.numbers.now a.out.now k.begins k.good k.named k.few k.distinct
    c.measure-length.result c.measure-length.ensures c.if-length-gt-PAYLOAD_LIMIT.false c.if-out-length.false c.put_all.ensures
