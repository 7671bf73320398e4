-- `env_writer::put_value` meets its contract: nothing, or VALUE and the value. Assumes nothing.
use mathlib.Core.Path.{◌≡◌, sym, ap, ◌∙◌}
use mathlib.Core.List.{◌∷◌}
use Prim.Native.Nat.{◌+◌, ◌≤◌}
use native.Mathlib.Omega.{arith}
use lib.ListN.{length, set, length-set}
use Rattle.env.specs.Variable.{VALUE, ESC}
use Rattle.env.specs.Write.{escaped, written_value}
use Rattle.env.specs.Numbers.{variable_of}
use Rattle.octets.specs.Part.{part}
use Rattle.octets.specs.Lent.{overwrite}
use Rattle.octets.proofs.Overwrite.{overwrite-nil, overwrite-cons}
use Rattle.octets_marked.proofs.Marked.{put_whole}
use Rattle.env_writer.proofs.Writing.{undefined-written, defined-written}
use Rattle.env_writer.proofs.WritingRecords.{Within, within, lent-marked}
use Rattle.env_writer.proofs.put_value.Goals.{Else-v-ne-DEFINED, Start}
use Rattle.env_writer.proofs.put_value.Goals as goal

good : (c : Start) → Within c.args.bytes.now c.args.v
good c =
    within c.args.bytes.now c.args.v c.requires.0

pub returns-then-v-ne-DEFINED : goal.returns-then-v-ne-DEFINED
returns-then-v-ne-DEFINED c =
    let a = c.args in
    let none = undefined-written a.v.mark (part c.args.bytes.now c.args.v.value_at c.args.v.value_length) c.if-v-ne-DEFINED.true in
    record { place = omega (arith, ap length none); lent = sym (ap (overwrite a.out.now a.at) none ∙ overwrite-nil a.out.now a.at) }

written : (c : Else-v-ne-DEFINED) → written_value (variable_of c.args.bytes.now c.args.v).value ≡ VALUE ∷ escaped (part c.args.bytes.now c.args.v.value_at c.args.v.value_length)
written c =
    defined-written c.args.v.mark (part c.args.bytes.now c.args.v.value_at c.args.v.value_length) (omega arith)

room : (c : Else-v-ne-DEFINED) → c.args.at + (1 + length (escaped (part c.args.bytes.now c.args.v.value_at c.args.v.value_length))) ≤ length c.args.out.now
room c =
    omega (arith, c.requires.1, ap length (written c))

pub overflow_add-value_end : goal.overflow_add-value_end
overflow_add-value_end c = omega (arith, good (goal.at.overflow_add-value_end c).Start)

pub bounds-out-at : goal.bounds-out-at
bounds-out-at c = omega (arith, room (goal.at.bounds-out-at c).Else-v-ne-DEFINED)

pub slice_bounds-put_marked-end : goal.slice_bounds-put_marked-end
slice_bounds-put_marked-end c = (good (goal.at.slice_bounds-put_marked-end c).Start).value

pub shape_of-out : goal.shape_of-out
shape_of-out c = c.put_marked.auto.out ∙ simp length-set

pub returns : goal.returns
returns c =
    let a = c.args in
    let v = a.v in
    let x = escaped (part c.args.bytes.now c.args.v.value_at c.args.v.value_length) in
    let opened = set a.out.now a.at VALUE in
    let fits : a.at + 1 + length x ≤ length opened = simp length-set (omega (arith, room (goal.at.returns c).Else-v-ne-DEFINED)) in
    let same = lent-marked a.bytes.now v.value_at v.value_length in
    let put = put_whole ESC 0 3 _ opened (a.at + 1) x same fits c.put_marked.ensures in record {
      place = omega (arith, put.0, ap length (written (goal.at.returns c).Else-v-ne-DEFINED));
      lent = put.1 ∙ overwrite-cons a.out.now a.at VALUE x (omega (arith, room (goal.at.returns c).Else-v-ne-DEFINED)) ∙ sym (ap (overwrite a.out.now a.at) (written (goal.at.returns c).Else-v-ne-DEFINED));
    }
