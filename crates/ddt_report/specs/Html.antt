-- A text of a register as HTML has it, in an element or in the value of an attribute.
use Rattle.std.specs.Prelude.{ℕ, List, [], ◌∷◌, ◌++◌, ◌==◌, if◌then◌else◌, codes}
use Rattle.std.specs.List.{flat_map}

-- the bytes 34, 38, 39, 60 and 62 are `"`, `&`, `'`, `<` and `>`
abbrev pub escaped_byte : ℕ → List ℕ
escaped_byte b =
    if b == 34 then codes "&quot;" else if b == 38 then codes "&amp;" else if b == 39 then codes "&#39;"
    else if b == 60 then codes "&lt;" else if b == 62 then codes "&gt;" else b ∷ []

abbrev pub escaped : List ℕ → List ℕ
escaped text = flat_map escaped_byte text

-- a field as a cell of a table
unfoldable pub cell_text : List ℕ → List ℕ
cell_text field = codes "<td>" ++ escaped field ++ codes "</td>"
