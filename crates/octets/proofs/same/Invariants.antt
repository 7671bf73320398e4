use Rattle.std.proofs.Common.{◌≡◌, ◌&&◌, length, nat_eq}
use Rattle.octets.specs.Same.{same}
use Rattle.octets.proofs.same.Given as goal

-- that no difference was found yet and that the rest is the same, together, are the answer
abbrev pub invariant-loop-x : goal.invariant-loop-x
invariant-loop-x l = (length l.x-iterator.a.rest.now ≡ length l.x-iterator.b.rest.now) × (nat_eq l.differences 0 && same l.x-iterator.a.rest.now l.x-iterator.b.rest.now ≡ same l.a l.b)
