-- `startup_record::put_fields` meets its contract. Assumes nothing.
use mathlib.Core.Path.{ap, ◌∙◌}
use Rattle.octets.specs.Promise.{put_at}
use Rattle.startup_record.proofs.Pieces.{fields-put}
use Rattle.startup_record.proofs.put_fields.Goals as goal

pub returns : goal.returns
returns c =
    let a = c.args in
    fields-put a.code a.system.now a.device.now a.out.now c.requires
    c.put.new.buffer c.put-2.new.buffer c.put_ebcdic.new.out c.put_ebcdic-2.new.out c.put_ebcdic-3.new.out c.put-3.new.buffer
    c.put.result c.put-2.result c.put_ebcdic.result c.put_ebcdic-2.result c.put_ebcdic-3.result c.put-3.result
    c.put.ensures
    (c.put-2.ensures ∙ ap (λ b. put_at b c.put.new.buffer 4) c.fixed_fields.ensures)
    c.put_ebcdic.ensures c.put_ebcdic-2.ensures c.put_ebcdic-3.ensures c.put-3.ensures
