-- `startup_record::response` meets its contract: 36 for either name, and 4 last. Assumes nothing.
use mathlib.Core.Path.{sym, ap, ◌∙◌}
use Rattle.octets.specs.Lent.{overwrite}
use Rattle.startup_record.specs.Internal.Parts.{laid_out}
use Rattle.startup_record.proofs.Pieces.{code-four, bad-device, bad-system, no_room_lem, wrote}
use Rattle.startup_record.proofs.response.Goals as goal

pub returns-then-not-is_name : goal.returns-then-not-is_name
returns-then-not-is_name c =
    let a = c.args in
    bad-device a.device_fault a.verdict a.system.now a.device.now a.out.now (sym c.is_name.ensures ∙ c.if-not-is_name.true)

pub returns-then-not-is_name-2 : goal.returns-then-not-is_name-2
returns-then-not-is_name-2 c =
    let a = c.args in
    bad-system a.device_fault a.verdict a.system.now a.device.now a.out.now
    (sym c.is_name.ensures ∙ c.if-not-is_name.false) (sym c.is_name-2.ensures ∙ c.if-not-is_name-2.true)

pub returns-then-out-lt-RECORD_LENGTH : goal.returns-then-out-lt-RECORD_LENGTH
returns-then-out-lt-RECORD_LENGTH c =
    let a = c.args in
    no_room_lem a.device_fault a.verdict a.system.now a.device.now a.out.now
    (sym c.is_name.ensures ∙ c.if-not-is_name.false) (sym c.is_name-2.ensures ∙ c.if-not-is_name-2.false) c.if-out-lt-RECORD_LENGTH.true

pub put_fields-requires : goal.put_fields-requires
put_fields-requires c =
    let a = c.args in
    record {
      four = rw c.code.ensures (code-four a.device_fault a.verdict);
      good_system = sym c.is_name-2.ensures ∙ c.if-not-is_name-2.false;
      good_device = sym c.is_name.ensures ∙ c.if-not-is_name.false;
      room = c.if-out-lt-RECORD_LENGTH.false;
    }

pub returns : goal.returns
returns c =
    let a = c.args in
    wrote a.device_fault a.verdict a.system.now a.device.now a.out.now
    (sym c.is_name.ensures ∙ c.if-not-is_name.false) (sym c.is_name-2.ensures ∙ c.if-not-is_name-2.false) c.if-out-lt-RECORD_LENGTH.false
    _ (c.put_fields.ensures ∙ ap (λ x. overwrite a.out.now 0 (laid_out x a.system.now a.device.now)) c.code.ensures)
