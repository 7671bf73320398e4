-- Padding to a width.
use Rattle.std.specs.Prelude.{List, ◌++◌, ℕ, ◌-◌, length, replicate}

-- a list with as many pads after it as fill a width; a longer one stays as it is
unfoldable pub filled : (pad width : ℕ) → List ℕ → List ℕ
filled pad width l = l ++ replicate (width - length l) pad
