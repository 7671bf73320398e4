-- What the code has between two rounds.
use Rattle.std.specs.Prelude.{◌≡◌, ℕ, ◌-◌, ◌*◌, List, ◌++◌, length, take, drop}
use Rattle.words.specs.Blocks.{words_of}
use Rattle.sha1_hash.specs.Sha1.{Five, extended, schedule, rounds}

-- the words that t words, the block's others and those made of them are
abbrev pub planned : List ℕ → ℕ → List ℕ → List ℕ
planned block t u = extended (64 - (t - 16)) (u ++ words_of 4 (drop (4 * t) block))

-- before round t, from the hash value H: t words of the schedule are in the array, and the working variables have gone
-- through their rounds
pub record Rounded (block : List ℕ) (H : Five) (t : ℕ) (w : List ℕ) (s : Five) : Type 0 where
  pub plan : planned block t (take t w) ≡ schedule block
  pub variables : s ≡ rounds 0 (take t w) H

-- the rounds from t to u, whatever hash value the first of all began from; the array keeps its 80 words
pub record Carried (block : List ℕ) (t : ℕ) (w : List ℕ) (s : Five) (u : ℕ) (w' : List ℕ) (s' : Five) : Type 0 where
  pub words : length w' ≡ 80
  pub rounded : (H : Five) → Rounded block H t w s → Rounded block H u w' s'
