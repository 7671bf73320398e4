-- `env_writer::put_all` meets its contract: what is left to write, written where the loop is, gives the whole. Assumes
-- nothing.
use mathlib.Core.Path.{◌≡◌, refl, sym, ap, ap₂, ◌∙◌}
use Prim.Native.Nat.{◌+◌, ◌*◌, ◌/◌, ◌<◌}
use native.Mathlib.Omega.{arith}
use lib.ListN.{length, drop}
use Rattle.env.specs.Write.{written_variable, written_variables}
use Rattle.env.specs.Numbers.{record_width, variable_of, variables_held, is_placed}
use Rattle.env_records.specs.Records.{record_at}
use Rattle.octets.specs.Lent.{overwrite}
use Rattle.octets.proofs.Overwrite.{overwrite-nil, overwrite-append}
use Rattle.env_writer.proofs.WritingRecords.{good-from, written_from, length-written-from, written_none}
use Rattle.env_writer.proofs.put_all.Goals as goal

pub loop-i-init : goal.loop-i-init
loop-i-init c = (c.requires.all_placed, refl, c.requires.room, refl)

pub put_variable-at-requires : goal.put_variable-at-requires
put_variable-at-requires c =
    let l = c.loop-i in
    let a = c.args in
    let t : l.i < length a.numbers.now / record_width = omega arith in
    let bytes = a.bytes.now in
    let numbers = a.numbers.now in
    let this = c.record_at.ensures in
    let size = ap (λ r. length (written_variable (variable_of bytes r))) this in (
      ap (λ r. is_placed bytes r) this ∙ (good-from bytes numbers l.i t l.invariant.0).0,
      omega (arith, size, length-written-from bytes numbers l.i t, l.invariant.1, l.invariant.2),
    )

pub loop-i-preserved : goal.loop-i-preserved
loop-i-preserved c =
    let p = c.put_variable-at in
    let l = c.loop-i in
    let a = c.args in
    let t : l.i < length a.numbers.now / record_width = omega arith in
    let bytes = a.bytes.now in
    let numbers = a.numbers.now in
    let this = ap (λ v. written_variable (variable_of bytes v)) c.record_at.ensures in
    let n = length-written-from bytes numbers l.i t in
    let one = written_variable (variable_of bytes (record_at numbers l.i)) in
    let rest = written_variables (variables_held bytes (drop (record_width * (l.i + 1)) numbers)) in
    let place : p.result ≡ l.at + length one = p.ensures.place ∙ ap (λ w. l.at + length w) this in
    let variable = overwrite-append l.out l.at one rest (omega (arith, n, l.invariant.1, l.invariant.2)) in (
      (good-from bytes numbers l.i t l.invariant.0).1,
      p.auto.out ∙ l.invariant.1,
      omega (arith, n, place, l.invariant.2),
      ap₂ (λ m j. overwrite m j rest) (p.ensures.lent ∙ ap (overwrite l.out l.at) this) place
          ∙ variable ∙ ap (overwrite l.out l.at) (sym (written_from bytes numbers l.i t)) ∙ l.invariant.3,
    )

pub returns : goal.returns
returns c =
    let l = c.loop-i in
    let a = c.args in
    sym (overwrite-nil l.out l.at)
    ∙ ap (overwrite l.out l.at) (sym (written_none a.bytes.now a.numbers.now l.i (omega arith))) ∙ l.invariant.3
