-- The fields of a record, by their places.
use Rattle.std.proofs.Common.{◌≡◌, ℕ, zero, suc, List, [], ◌∷◌, length, get_or, Option, Some, None, Bor, refl, sym, ◌∙◌, arith}
use Rattle.std.specs.Prelude.{option_map, unwrap_or}
use Rattle.csv.specs.Records.{field_at}
use Rattle.csv.proofs.RecordFacts.{field-get}

field-missing : (fields : List (List ℕ)) (i : ℕ) → field_at fields i ≡ None → get_or fields i [] ≡ []
unfolding field_at
field-missing [] i e = refl
field-missing (f ∷ fs) zero e = cc e
field-missing (f ∷ fs) (suc i) e = field-missing fs i e

-- a field that was asked for, empty where there is none
pub field-unwrapped : (fields : List (List ℕ)) (i : ℕ) (found : Option (Bor (List ℕ))) (otherwise : Bor (List ℕ)) → otherwise.now ≡ [] → option_map (λ s. s.now) found ≡ field_at fields i → (unwrap_or found otherwise).now ≡ get_or fields i []
field-unwrapped fields i None otherwise e f = e ∙ sym (field-missing fields i (sym f))
field-unwrapped fields i (Some s) otherwise e f = sym (field-get fields i s.now (sym f))

-- a list of four fields
pub four_fields : (fields : List (List ℕ)) → length fields ≡ 4 → fields ≡ get_or fields 0 [] ∷ get_or fields 1 [] ∷ get_or fields 2 [] ∷ get_or fields 3 [] ∷ []
four_fields [] e = absurd (omega arith)
four_fields (a ∷ []) e = absurd (omega arith)
four_fields (a ∷ b ∷ []) e = absurd (omega arith)
four_fields (a ∷ b ∷ c ∷ []) e = absurd (omega arith)
four_fields (a ∷ b ∷ c ∷ d ∷ []) e = refl
four_fields (a ∷ b ∷ c ∷ d ∷ f ∷ more) e = absurd (omega arith)
