-- Definitions mean what they are named after, and what follows from them that the papers say besides.
use Rattle.octets.specs.Same.{SameIsEqual}
use Rattle.words.specs.Padding.{FewestZeroBits}
use Rattle.env.specs.Theorems.{IsBoth, AmongIsOccurs, RepeatedIsTwice, LookupPassesOver}
use Rattle.env.specs.Boundaries.{boundaries, AllRead}
use Rattle.env_search.specs.Theorems.{FindsTheValue, AbsentWhereNone}
use Rattle.names.specs.Theorems.{OwnEbcdic, Apart, StrictAndTotal}
use Rattle.des.specs.Theorems.{ParityIgnored, FinalUndoesInitial}
use Rattle.telnet_listing.specs.Sample.{Sample}

pub record Others : Type 0 where
  -- The test by which bytes are compared is equality.
  pub same_is_equal : SameIsEqual
  -- FIPS 180-4, 5.1: the padding has the smallest number of zero bits that fills a block.
  pub fewest_zero_bits : FewestZeroBits
  -- A variable is of a kind and name where both are its own; one is among some where it occurs; 25 is a kind and name
  -- that are there twice.
  pub is_both : IsBoth
  pub among_is_occurs : AmongIsOccurs
  pub repeated_is_twice : RepeatedIsTwice
  -- Payloads at the boundaries between refusals.
  pub boundaries_read : AllRead boundaries
  -- A look-up finds the value of the first such variable that is defined, and nothing exactly where there is none; so
  -- it passes over undefined ones.
  pub finds_the_value : FindsTheValue
  pub absent_where_none : AbsentWhereNone
  pub lookup_passes_over : LookupPassesOver
  -- The bytes of names have EBCDIC of their own, and no two the same.
  pub own_ebcdic : OwnEbcdic
  pub apart : Apart
  -- The order of names is strict and total.
  pub strict_and_total : StrictAndTotal
  -- "The parity bits of a key are ignored."
  pub parity_ignored : ParityIgnored
  -- FIPS 46: the final permutation is the inverse of the initial one.
  pub final_undoes_initial : FinalUndoesInitial
  -- "From FF FD 18 41 FF FF 42 FF EF it prints exactly" its four lines.
  pub sample : Sample
