-- The response record on the line: a run and an end-of-record (RFC 4777, section 10, with the names of figure 1).
use Rattle.std.specs.Prelude.{ℕ, false, List}
use Rattle.octets.specs.Ascii.{ascii}
use Rattle.telnet.specs.Event.{Event}
use Rattle.signon.specs.declared.Verdict.{Verdict}
use Rattle.show_event.specs.Sent.{record_events}
use Rattle.startup.specs.Response.{response_of}

abbrev pub system : List ℕ
system = ascii "TARGET"

abbrev pub device : List ℕ
device = ascii "PCPRINTER"

abbrev pub responded : Verdict → List Event
responded v = record_events (response_of false v system device)
