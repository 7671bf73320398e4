-- `profile_record::is_record` meets its contract, test by test. Assumes nothing.
use mathlib.Core.Path.{◌≡◌, sym, ap, ◌∙◌}
use Prim.Native.Nat.{◌+◌, ◌^◌}
use native.Mathlib.Omega.{arith}
use Rattle.names.specs.Name.{is_raised_name, profile_limit}
use Rattle.profile.specs.Profile.{shape_of, record_length}
use Rattle.profile.proofs.Shapes.{short}
use Rattle.profile_record.proofs.Records.{cut, other_length, other-flag, by_name, name-lent}
use Rattle.profile_record.proofs.is_record.Goals.{After-byte_at-n}
use Rattle.profile_record.proofs.is_record.Goals as goal

size : (c : After-byte_at-n) → c.record_length-fixed.result ≡ record_length (shape_of c.args.version) 0
size c =
    c.record_length-fixed.ensures

flags : (c : After-byte_at-n) → c.highest_flags-highest.result + 1 ≡ 2 ^ (shape_of c.args.version).marks
flags c =
    c.highest_flags-highest.ensures

pub overflow_add-fixed : goal.overflow_add-fixed
overflow_add-fixed c = omega (arith, size (goal.at.overflow_add-fixed c).After-byte_at-n, short c.args.version)

pub returns-then-bytes-fixed : goal.returns-then-bytes-fixed
returns-then-bytes-fixed c =
    sym (cut (shape_of c.args.version) _ _ (size (goal.at.returns-then-bytes-fixed c).After-byte_at-n) (flags (goal.at.returns-then-bytes-fixed c).After-byte_at-n) c.args.bytes.now (omega arith))

pub overflow_sub-fixed : goal.overflow_sub-fixed
overflow_sub-fixed c = omega (arith, size (goal.at.overflow_sub-fixed c).After-byte_at-n)

pub overflow_add-fixed-2 : goal.overflow_add-fixed-2
overflow_add-fixed-2 c = omega arith

pub returns-then-from-fixed : goal.returns-then-from-fixed
returns-then-from-fixed c =
    sym (other_length (shape_of c.args.version) _ _ (size (goal.at.returns-then-from-fixed c).After-byte_at-n) (flags (goal.at.returns-then-from-fixed c).After-byte_at-n) c.args.bytes.now (omega arith) (λ e. omega arith))

pub returns-then-highest-bytes : goal.returns-then-highest-bytes
returns-then-highest-bytes c =
    sym (other-flag (shape_of c.args.version) _ _ (size (goal.at.returns-then-highest-bytes c).After-byte_at-n) (flags (goal.at.returns-then-highest-bytes c).After-byte_at-n) c.args.bytes.now (omega arith) (omega arith) (omega arith))

pub returns : goal.returns
returns c =
    let bs = c.args.bytes.now in
    c.is_raised_name.ensures
    ∙ ap (is_raised_name profile_limit) (name-lent bs c.byte_at-n.result (omega arith))
    ∙ sym (by_name (shape_of c.args.version) _ _ (size (goal.at.returns c).After-byte_at-n) (flags (goal.at.returns c).After-byte_at-n) bs (omega arith) (omega arith) (omega arith))
