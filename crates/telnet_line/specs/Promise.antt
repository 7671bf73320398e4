-- What the public function that hands a line back answers (specification, the end of "Worked lines of the line").
use Rattle.std.specs.Prelude.{List, ℕ, length, replicate}
use Rattle.telnet_line.specs.declared.LineText.{LineText}
use Rattle.octets.specs.Lent.{overwrite}

-- a line of at most 67 bytes as it is handed back: its bytes with zeros after them, and their number
unfoldable pub text_of_line : List ℕ → LineText
text_of_line words = record { bytes = overwrite (replicate 67 0) 0 words; length = length words }
