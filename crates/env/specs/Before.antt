-- The reading as it was before change request No. 3, which knew no undefined variable: a name without VALUE had an
-- empty value. Only a theorem speaks of it (`Theorems.ReadsAsBefore`).
use Rattle.std.specs.Prelude.{ℕ, suc, List, [], ◌∷◌, map, ltb, length, if◌then◌else◌}
use Rattle.env.specs.Variable.{defined, Variable, variable, is_first}
use Rattle.env.specs.Fields.{Field, name_field, value_field, row_of}
use Rattle.env.specs.Numbers.{bytes_of}
use Rattle.env.specs.Read.{Found, variables, fault, add_variable, limited, whole, named, expect_no_text}
use Rattle.env.specs.Read.{Reading, says, not_read, distinct}
use Rattle.telnet.specs.Event.{payload_limit}
use Rattle.refusal.specs.declared.Refusal.{Refusal}
use Rattle.refusal.specs.declared.Refusal.TheVariants.{PayloadTooLong, NotIsOrInfo, NoVariable, ValueInValue}

unfoldable pub names_before : Refusal → (k : ℕ) → List Field → Found
names_before wrong k [] = variables []
names_before wrong k (value_field t ∷ fs) = fault wrong
names_before wrong k (name_field kind t ∷ value_field u ∷ fs) =
    limited k (whole t (named (λ name. whole u (λ value. add_variable (variable kind name (defined value)) (names_before ValueInValue (suc k) fs)))))
names_before wrong k (name_field kind t ∷ []) =
    limited k (whole t (named (λ name. add_variable (variable kind name (defined [])) (variables []))))
names_before wrong k (name_field kind t ∷ name_field kind₂ u ∷ fs) =
    limited k (whole t (named (λ name. add_variable (variable kind name (defined [])) (names_before NoVariable (suc k) (name_field kind₂ u ∷ fs)))))

unfoldable pub begun_before : List ℕ → Reading
begun_before [] = not_read NotIsOrInfo
begun_before (b ∷ bs) =
    let r = row_of bs in
    if is_first b then distinct b (expect_no_text r.front (names_before NoVariable 0 r.fields)) else not_read NotIsOrInfo

unfoldable pub reading_before : List ℕ → Reading
reading_before p = if ltb payload_limit (length p) then not_read PayloadTooLong else begun_before p

-- a variable, and a reading, in which an undefined variable has an empty value
abbrev pub filled : Variable → Variable
filled v = variable v.kind v.name (defined (bytes_of v.value))

unfoldable pub without_mark : Reading → Reading
without_mark (says first vs) = says first (map filled vs)
without_mark (not_read e) = not_read e
