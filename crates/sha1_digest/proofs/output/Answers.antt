-- `sha1_digest::output` meets its contract: the five words fill the digest. Assumes nothing.
use Rattle.octets.specs.Lent.{overwrite}
use Rattle.words.specs.BigEndian.{bytes}
use Rattle.sha1_hash.specs.Sha1.{digest_of}
use Rattle.sha1_digest.proofs.output.Goals as goal

pub returns : goal.returns
unfolding bytes digest_of overwrite
returns c =
    rw (
      c.with_word-3.ensures.1,
      c.with_word-four.ensures.1,
      c.with_word-2.ensures.1,
      c.with_word-two.ensures.1,
      c.with_word.ensures.1,
    )
