-- The digits of a verdict (specification, "Verdict": 0002, 0003 and 0004, as RFC 4777, section 10.4, has them).
use Rattle.std.specs.Prelude.{List, [], ℕ}
use Rattle.octets.specs.Ascii.{ascii}
use Rattle.signon.specs.declared.Verdict.{Verdict}
use Rattle.signon.specs.declared.Verdict.TheVariants.{Panel, NotKnown, Disabled, Failed, Grant}

-- PANEL and GRANT have none
abbrev pub digits_of : Verdict → List ℕ
digits_of Panel = []
digits_of NotKnown = ascii "0002"
digits_of Disabled = ascii "0003"
digits_of Failed = ascii "0004"
digits_of Grant = []
