-- What the private functions of `src/words.rt` find before the bytes are put: a word and up to two numbers. No public
-- promise rests on these definitions.
use Rattle.std.specs.Prelude.{◌≡◌, Option, None, Some, List, [], ◌++◌, ℕ, ◌+◌, ◌≤◌, length}
use Rattle.octets.specs.Ascii.{ascii}
use Rattle.octets.specs.Decimal.{decimal}
use Rattle.telnet_line.specs.declared.words.Phrase.{Phrase}

-- a blank and a number, if it is there
abbrev pub spaced : Option ℕ → List ℕ
spaced (Some n) = ascii " " ++ decimal n
spaced None = []

-- how many bytes that can be at most
abbrev pub most : Option ℕ → ℕ
most (Some n) = 21
most None = 0

-- the words of a phrase
abbrev pub phrase_text : Phrase → List ℕ
phrase_text p = (p.word.now ++ spaced p.first) ++ spaced p.second

-- a phrase with a word of seven letters at most, in 45 bytes at most
pub record Short (p : Phrase) : Type 0 where
  pub letters : length p.word.now ≤ 7
  pub all : length p.word.now + most p.first + most p.second ≤ 45

-- a phrase that says these words, and is short
pub record IsPhrase (words : List ℕ) (p : Phrase) : Type 0 where
  pub says : phrase_text p ≡ words
  pub short : Short p
