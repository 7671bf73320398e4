-- A frame of more than 65,535 bytes. Assumes nothing.
use native.Mathlib.Omega.{arith}
use lib.ListN.{length}
use borrow.Author.Tests.{le-ltb, ne_eqb}
use Rattle.print_frame.specs.Frame.{structure_length, frame_of}
use Rattle.print_frame.specs.Theorems.{TooLongToSay}

pub too-long-to-say : TooLongToSay
unfolding frame_of
too-long-to-say f high low long = rw (le-ltb (length f) 10 (omega arith), ne_eqb (structure_length f) (length f) (λ e. omega arith))
