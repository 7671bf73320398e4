-- The worked stream is listed as the specification says, by computation. Assumes nothing.
use mathlib.Core.Path.{refl}
use Rattle.telnet.specs.Event.{lead}
use Rattle.telnet.specs.Write.{doubled, written}
use Rattle.telnet.specs.Whole.{ended, leads, step_byte, stops, reading_from, reading}
use Rattle.octets.specs.Decimal.{digits, decimal}
use Rattle.telnet_line.specs.Line.{said, command_text, text, ending_text, line}
use Rattle.telnet_listing.specs.Listing.{lines_from, listing}
use Rattle.telnet_listing.specs.Sample.{Sample}

pub worked : Sample
unfolding lead doubled written ended leads step_byte stops reading_from reading digits decimal said command_text text ending_text line lines_from listing
worked = refl
