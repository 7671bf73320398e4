-- `env_delivery::hand_over` meets its contract: its ways out are those of `hand_over`. Assumes nothing.
use mathlib.Core.Path.{sym}
use native.Mathlib.Omega.{arith}
use Rattle.env_delivery.proofs.Handing.{handed-no-bytes, handed-no-numbers, handed-all, copied}
use Rattle.env_delivery.proofs.hand_over.Goals as goal

pub returns-then-bytes-texts : goal.returns-then-bytes-texts
returns-then-bytes-texts c =
    let a = c.args in
    sym (handed-no-bytes a.first a.texts.now a.records.now a.bytes.now a.numbers.now (omega arith))

pub returns-then-numbers-records : goal.returns-then-numbers-records
returns-then-numbers-records c =
    let a = c.args in
    sym (handed-no-numbers a.first a.texts.now a.records.now a.bytes.now a.numbers.now (omega arith) (omega arith))

pub returns : goal.returns
returns c =
    let a = c.args in
    let texts = copied _ a.texts.now a.bytes.now c.copy_from_slice.ensures.after in
    let records = copied _ a.records.now a.numbers.now c.copy_from_slice-2.ensures.after in
    rw (texts, records) (sym (handed-all a.first a.texts.now a.records.now a.bytes.now a.numbers.now (omega arith) (omega arith)))
