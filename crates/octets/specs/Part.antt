-- A part of bytes, by a place and a number of bytes.
use Rattle.std.specs.Prelude.{ℕ, List, take, drop}

-- the n bytes from a place on, or as many as there are
unfoldable pub part : List ℕ → (at n : ℕ) → List ℕ
part bytes at n = take n (drop at bytes)
