-- `words::bytes_32` meets its contract: the lowest byte is shifted by nothing. Assumes nothing.
use native.Mathlib.Nat.{div-one}
use Rattle.words.specs.BigEndian.{bytes}
use Rattle.words.proofs.bytes_32.Goals as goal

pub returns : goal.returns
unfolding bytes
returns c = rw c.to_be_bytes.ensures (rw div-one)
