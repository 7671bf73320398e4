-- `password_des::folded_byte` meets its contract: each byte it reads is among the first ten. Assumes nothing.
use Rattle.std.proofs.Common.{◌≡◌, ◌+◌, ◌-◌, ◌*◌, ◌/◌, ◌%◌, arith, get_or-take}
use Rattle.password_des.proofs.folded_byte.Goals as goal

pub returns : goal.returns
returns c =
    let id = c.args.id in
    let i = c.args.i in
    let r = c.pair_of.result in
    let small : r * 64 % 256 ≡ r * 64 = omega (arith, c.pair_of.ensures) in
    let e : 9 + (i - 1) / 4 - 1 ≡ 8 + (i - 1) / 4 = omega arith in
    rw (small, e, get_or-take 10 id (i - 1) 0 (omega arith), get_or-take 10 id (8 + (i - 1) / 4) 0 (omega arith), c.pair_of.ensures)
