use mathlib.Core.Path.{◌≡◌}
use mathlib.Core.List.{List}
use Prim.Native.Nat.{ℕ, ◌+◌, ◌-◌, ◌≤◌}
use lib.ListN.{length, drop}
use Rattle.octets.specs.Lent.{overwrite}
use Rattle.names.specs.Padding.{filled}
use Rattle.names.specs.Ebcdic.{blank, ebcdic_of}
use Rattle.names_ebcdic.proofs.put_ebcdic.Given as goal

-- what is put, and how long it is
abbrev pub field : List ℕ → ℕ → List ℕ
field text width = filled blank width (ebcdic_of text)

abbrev pub invariant-loop-i : goal.invariant-loop-i
invariant-loop-i l =
    (l.i ≤ l.count) × (l.count ≡ length (field l.text l.width)) × (l.at + l.count ≤ length l.initial.out) × (length l.out ≡ length l.initial.out)
    × (overwrite l.out (l.at + l.i) (drop l.i (field l.text l.width)) ≡ overwrite l.initial.out l.at (field l.text l.width))
