-- The EBCDIC of a name's bytes (specification, "Tokens, substitutes, verdicts").
use Rattle.std.specs.Prelude.{List, map, ℕ, ◌+◌, ◌-◌, eqb, if◌then◌else◌}
use Rattle.names.specs.Range.{in_range}
use Rattle.names.specs.Name.{raised}

-- EBCDIC's substitute for what it does not have, SUB, and its blank
abbrev pub substitute : ℕ
substitute = 0x3F

abbrev pub blank : ℕ
blank = 0x40

-- "A-I C1-C9, J-R D1-D9, S-Z E2-E9, 0-9 F0-F9, $ 5B, # 7B, @ 7C, _ 6D"; a byte that no name has gives the substitute
unfoldable pub ebcdic : ℕ → ℕ
ebcdic b =
    if in_range 0x41 0x49 b then 0xC1 + (b - 0x41) else
    if in_range 0x4A 0x52 b then 0xD1 + (b - 0x4A) else
    if in_range 0x53 0x5A b then 0xE2 + (b - 0x53) else
    if in_range 0x30 0x39 b then 0xF0 + (b - 0x30) else
    if eqb b 0x24 then 0x5B else
    if eqb b 0x23 then 0x7B else
    if eqb b 0x40 then 0x7C else
    if eqb b 0x5F then 0x6D else
    substitute

-- the EBCDIC of a text, raised first
abbrev pub ebcdic_of : List ℕ → List ℕ
ebcdic_of text = map ebcdic (raised text)
