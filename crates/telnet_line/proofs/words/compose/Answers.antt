-- `telnet_line::words::compose` meets its contract. Assumes nothing.
use mathlib.Core.Path.{◌∙◌}
use mathlib.Core.List.{append_assoc}
use native.Mathlib.Omega.{arith}
use lib.ListN.{length-set}
use Rattle.octets.specs.Ascii.{ascii}
use Rattle.octets.specs.Decimal.{decimal}
use Rattle.telnet_line.specs.Line.{line}
use Rattle.telnet_line.specs.Internal.Phrase.{phrase_text}
use Rattle.telnet_line.proofs.Put.{joined, byte-after}
use Rattle.telnet_line.proofs.words.compose.Goals as goal

pub shape_of-out : goal.shape_of-out
shape_of-out c = rw length-set (c.put_phrase-second.auto.out ∙ c.put_number-first.auto.out)

pub returns : goal.returns
unfolding line
returns c =
    let a = c.args in
    let said = joined c.put_number-first.ensures c.put_phrase-second.ensures (omega arith) in
    rw (append_assoc (decimal a.place) (ascii " ") (phrase_text a.phrase)) (byte-after said 10 (omega arith))
