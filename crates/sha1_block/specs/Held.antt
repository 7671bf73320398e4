-- How the code holds a hash value.
use Rattle.sha1_block.specs.declared.Words.{Words}
use Rattle.sha1_hash.specs.Sha1.{Five}

-- the five words
abbrev pub five : Words → Five
five w = record { a = w.a; b = w.b; c = w.c; d = w.d; e = w.e }
