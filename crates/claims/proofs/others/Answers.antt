-- `claims::others` promises what the crates of the definitions prove. Assumes nothing.
use Rattle.octets.proofs.Equality.{same-is-equal}
use Rattle.words.proofs.Padding.{fewest-zero-bits}
use Rattle.env.proofs.Undefined.{lookup-passes-over}
use Rattle.env.proofs.Repeats.{is-both, among-is-occurs, repeated-is-twice}
use Rattle.env.proofs.Boundary.{boundaries-read}
use Rattle.env_search.proofs.Found.{finds-the-value, absent-where-none}
use Rattle.names.proofs.Apart.{own-ebcdic, apart}
use Rattle.names.proofs.Order.{strict-and-total}
use Rattle.des.proofs.Parity.{parity-ignored}
use Rattle.des.proofs.Permutations.{final-undoes-initial}
use Rattle.telnet_listing.proofs.Sample.{worked}
use Rattle.claims.proofs.others.Goals as goal

pub returns : goal.returns
returns c =
    record {
      same_is_equal = same-is-equal;
      fewest_zero_bits = fewest-zero-bits;
      is_both = is-both;
      among_is_occurs = among-is-occurs;
      repeated_is_twice = repeated-is-twice;
      boundaries_read = boundaries-read;
      finds_the_value = finds-the-value;
      absent_where_none = absent-where-none;
      lookup_passes_over = lookup-passes-over;
      own_ebcdic = own-ebcdic;
      apart = apart;
      strict_and_total = strict-and-total;
      parity_ignored = parity-ignored;
      final_undoes_initial = final-undoes-initial;
      sample = worked;
    }
