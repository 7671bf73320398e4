-- `env_records::set_record` meets its contract. Assumes nothing.
use mathlib.Core.Path.{sym, ap, ◌∙◌}
use mathlib.Core.Bool.{true}
use Prim.Native.Nat.{◌+◌, ◌*◌, ◌≤◌}
use native.Mathlib.Omega.{arith}
use lib.ListN.{length, length-set}
use Rattle.octets.specs.Lent.{outcome}
use Rattle.octets.proofs.Promise.{put-fits, put_refused}
use Rattle.env.specs.Numbers.{record_width, numbers_of}
use Rattle.env_records.proofs.Stored.{record-stored}
use Rattle.env_records.proofs.set_record.Goals as goal

pub returns-then-numbers-i : goal.returns-then-numbers-i
returns-then-numbers-i c =
    let s = c.args in sym (put_refused (numbers_of s.v) s.numbers.now (record_width * s.i) (omega arith))

pub bounds-numbers-k-2 : goal.bounds-numbers-k-2
bounds-numbers-k-2 c = simp length-set (omega arith)

pub bounds-numbers-k-3 : goal.bounds-numbers-k-3
bounds-numbers-k-3 c = simp length-set (omega arith)

pub bounds-numbers-k-4 : goal.bounds-numbers-k-4
bounds-numbers-k-4 c = simp length-set (omega arith)

pub bounds-numbers-k-5 : goal.bounds-numbers-k-5
bounds-numbers-k-5 c = simp length-set (omega arith)

pub bounds-numbers-k-6 : goal.bounds-numbers-k-6
bounds-numbers-k-6 c = simp length-set (omega arith)

pub returns : goal.returns
returns c =
    let s = c.args in
    let v = s.v in
    let room : record_width * s.i + record_width ≤ length s.numbers.now = omega arith in
    ap (outcome true) (record-stored s.numbers.now (record_width * s.i) v room)
    ∙ sym (put-fits (numbers_of v) s.numbers.now (record_width * s.i) room)
