-- The server's seed of the played session. A seed is random and may have any bytes: this one has those that must be
-- escaped in environment strings, 0 to 3, and a 255, which must be doubled on the line.
use Rattle.std.specs.Prelude.{ℕ, List, [], ◌∷◌}

abbrev pub server_seed : List ℕ
server_seed = 0x00 ∷ 0x4C ∷ 0x01 ∷ 0x19 ∷ 0x02 ∷ 0xFF ∷ 0x03 ∷ 0xB2 ∷ []
