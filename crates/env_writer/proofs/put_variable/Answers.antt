-- `env_writer::put_variable` meets its contract: kind, name and value, one after the other. Assumes nothing.
use mathlib.Core.Path.{◌≡◌, ap, ◌∙◌}
use Prim.Native.Nat.{◌+◌, ◌≤◌}
use native.Mathlib.Omega.{arith}
use lib.ListN.{length, set, length-set}
use Rattle.env.specs.Variable.{ESC}
use Rattle.env.specs.Write.{escaped, written_value, written_variable}
use Rattle.env.specs.Numbers.{variable_of}
use Rattle.octets.specs.Part.{part}
use Rattle.octets.specs.Lent.{overwrite}
use Rattle.octets_marked.proofs.Marked.{put_whole}
use Rattle.env_writer.proofs.Writing.{stored-variable}
use Rattle.env_writer.proofs.WritingRecords.{Within, within, lent-marked, length-written}
use Rattle.env_writer.proofs.put_variable.Goals.{After-put_marked-k, Start}
use Rattle.env_writer.proofs.put_variable.Goals as goal

good : (c : Start) → Within c.args.bytes.now c.args.v
good c =
    within c.args.bytes.now c.args.v c.requires.0

room : (c : Start) → c.args.at + (1 + length (escaped (part c.args.bytes.now c.args.v.name_at c.args.v.name_length)) + length (written_value (variable_of c.args.bytes.now c.args.v).value)) ≤ length c.args.out.now
room c =
    rw (length-written c.args.bytes.now c.args.v) at c.requires.1

pub overflow_add-name_end : goal.overflow_add-name_end
overflow_add-name_end c = omega (arith, good (goal.at.overflow_add-name_end c).Start)

pub overflow_cast-out : goal.overflow_cast-out
overflow_cast-out c = omega (arith, good (goal.at.overflow_cast-out c).Start)

pub bounds-out-at : goal.bounds-out-at
bounds-out-at c = omega (arith, room (goal.at.bounds-out-at c).Start)

pub slice_bounds-put_marked-end : goal.slice_bounds-put_marked-end
slice_bounds-put_marked-end c = (good (goal.at.slice_bounds-put_marked-end c).Start).name

-- the name comes after the kind
named : (c : After-put_marked-k)
    → (c.put_marked-k.result ≡ c.args.at + 1 + length (escaped (part c.args.bytes.now c.args.v.name_at c.args.v.name_length)))
    × (c.put_marked-k.new.out ≡ overwrite (set c.args.out.now c.args.at c.args.v.kind) (c.args.at + 1) (escaped (part c.args.bytes.now c.args.v.name_at c.args.v.name_length)))
named c =
    let bytes = c.args.bytes.now in
    let v = c.args.v in
    let opened = set c.args.out.now c.args.at v.kind in
    let fits : c.args.at + 1 + length (escaped (part c.args.bytes.now c.args.v.name_at c.args.v.name_length)) ≤ length opened = simp length-set (omega (arith, rw (length-written c.args.bytes.now c.args.v) at c.requires.1)) in
    put_whole ESC 0 3 _ opened (c.args.at + 1) (escaped (part c.args.bytes.now c.args.v.name_at c.args.v.name_length)) (lent-marked bytes v.name_at v.name_length) fits c.put_marked-k.ensures

kept : (c : After-put_marked-k) → length c.put_marked-k.new.out ≡ length c.args.out.now
kept c =
    c.put_marked-k.auto.out ∙ simp length-set

-- after the name there is room for the value
room-left : (c : After-put_marked-k) → c.put_marked-k.result + length (written_value (variable_of c.args.bytes.now c.args.v).value) ≤ length c.put_marked-k.new.out
room-left c =
    omega (arith, (let it : c.args.at + (1 + length (escaped (part c.args.bytes.now c.args.v.name_at c.args.v.name_length)) + length (written_value (variable_of c.args.bytes.now c.args.v).value)) ≤ length c.args.out.now = rw (length-written c.args.bytes.now c.args.v) at c.requires.1 in it), (named c).0, kept c)

pub put_value-requires : goal.put_value-requires
put_value-requires c = (c.requires.0, room-left (goal.at.put_value-requires c).After-put_marked-k)

pub shape_of-out : goal.shape_of-out
shape_of-out c = c.put_value.auto.out ∙ kept (goal.at.shape_of-out c).After-put_marked-k

pub returns : goal.returns
unfolding written_variable
returns c =
    let v = c.args.v in
    let k = c.put_marked-k.result in
    let last = c.put_value.ensures in record {
      place = omega (arith, last.place, (named (goal.at.returns c).After-put_marked-k).0, length-written c.args.bytes.now v);
      lent = last.lent ∙ ap (λ l. overwrite l k (written_value (variable_of c.args.bytes.now c.args.v).value)) (named (goal.at.returns c).After-put_marked-k).1
          ∙ stored-variable c.args.out.now c.args.at k v.kind (escaped (part c.args.bytes.now c.args.v.name_at c.args.v.name_length)) (written_value (variable_of c.args.bytes.now c.args.v).value) (named (goal.at.returns c).After-put_marked-k).0 (omega (arith, room-left (goal.at.returns c).After-put_marked-k, kept (goal.at.returns c).After-put_marked-k));
    }
