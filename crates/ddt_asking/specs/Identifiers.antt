-- The identifiers that are asked about, beside the blocks that they are taken of.
use Rattle.std.specs.Prelude.{ℕ, ◌≡◌, List, [], ◌∷◌, ◌++◌, IsTrue}
use Rattle.ddt_path.specs.declared.xeid.Xeid.{Xeid}
use Rattle.ddt_path.specs.Covers.{covers}
use Rattle.ddt_path.specs.Path.{xeid_path}

-- one identifier for each prefix, in their order, which the prefix covers
pub data AreInside : List (List ℕ) → List (List ℕ) → Type 0 where
  no_prefix : AreInside [] []
  one_inside : (ps xs : List (List ℕ)) (p x : List ℕ) → AreInside ps xs → IsTrue (covers p x)
      → AreInside (ps ++ p ∷ []) (xs ++ x ∷ [])

-- an identifier that a prefix covers comes at the end
abbrev pub AddsInside : List ℕ → List Xeid → List Xeid → Type 0
AddsInside p before after = (x : Xeid) × IsTrue (covers p (xeid_path x)) × (after ≡ before ++ x ∷ [])
