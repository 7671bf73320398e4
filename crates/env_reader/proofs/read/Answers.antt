-- `env_reader::read` meets its contract: its ways out are those of `read_into`. Assumes nothing.
use mathlib.Core.Path.{sym, ◌∙◌}
use native.Mathlib.Omega.{arith}
use Rattle.octets.proofs.Front.{to_the_end}
use Rattle.env_reader.proofs.Reading.{read-long, read-empty, read-unknown, read_known}
use Rattle.env_reader.proofs.read.Goals as goal

pub returns-then-payload-gt-PAYLOAD_LIMIT : goal.returns-then-payload-gt-PAYLOAD_LIMIT
returns-then-payload-gt-PAYLOAD_LIMIT c =
    let a = c.args in
    sym (read-long a.bytes.now a.numbers.now a.payload.now (omega arith))

pub returns-then-payload-eq0 : goal.returns-then-payload-eq0
returns-then-payload-eq0 c =
    let a = c.args in
    sym (read-empty a.bytes.now a.numbers.now a.payload.now c.if-payload-eq0.true)

pub returns-then-not-is_first : goal.returns-then-not-is_first
returns-then-not-is_first c =
    let a = c.args in
    let is = c.is_first in
    let other = sym is.ensures ∙ c.if-not-is_first.true in
    sym (read-unknown a.bytes.now a.numbers.now a.payload.now (omega arith) (omega arith) other)

pub returns : goal.returns
returns c =
    let a = c.args in
    let is = c.is_first in
    let known = sym is.ensures ∙ c.if-not-is_first.false in
    let found = c.read_variables.ensures in
    (rw to_the_end at found) ∙ sym (read_known a.bytes.now a.numbers.now a.payload.now (omega arith) (omega arith) known)
