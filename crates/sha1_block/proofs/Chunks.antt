-- The chunks that the library cuts are the blocks of the definition, and so are those of a front that is all of the bytes:
-- `absorb` is proved of any slice that leaves nothing out, and of no other. Assumes nothing.
use Rattle.std.proofs.Common.{◌≡◌, ℕ, zero, suc, ◌/◌, List, ◌∷◌, ◌≤◌, length, take, drop, refl, ap}
use Rattle.std.specs.Simd.{first_chunks}
use lib.Seq.{take_all}
use Rattle.words.specs.Blocks.{pieces, cut}

chunks-pieces : (n k : ℕ) (l : List ℕ) → first_chunks n k l ≡ pieces k n l
unfolding pieces
chunks-pieces n zero l = refl
chunks-pieces n (suc k) l = ap (λ ps. take n l ∷ ps) (chunks-pieces n k (drop n l))

pub chunks_cut : (l : List ℕ) → first_chunks 64 (length l / 64) l ≡ cut 64 l
unfolding cut
chunks_cut l = chunks-pieces 64 (length l / 64) l

pub chunks_whole : (n : ℕ) (l : List ℕ) → length l ≤ n → first_chunks 64 (length (take n l) / 64) (take n l) ≡ cut 64 l
chunks_whole n l all = rw (take_all n l all) (chunks_cut l)
