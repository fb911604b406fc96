-- Digits that are taken byte by byte.
use Rattle.std.proofs.Common.{◌≡◌, ◌<◌, ◌+◌, ℕ, List, [], ◌∷◌, ◌++◌, length, take, get_or, ap, ◌∙◌}
use Rattle.std.proofs.lemmas.List.{take_more}
use Rattle.std.proofs.lemmas.List.Elements.{filter-append}
use Rattle.ddt_examples.specs.Digits.{digits_in}

pub digits_more : (fields : List ℕ) (i : ℕ) (d : ℕ) → i < length fields → digits_in (take (i + 1) fields) ≡ digits_in (take i fields) ++ digits_in (get_or fields i d ∷ [])
digits_more fields i d h = ap digits_in (take_more fields i d h) ∙ filter-append _ (take i fields) (get_or fields i d ∷ [])
