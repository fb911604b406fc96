-- What is found of the items of a list, one more at a time.
use Rattle.std.proofs.Common.{◌≡◌, ℕ, ◌+◌, ◌<◌, List, [], ◌∷◌, ◌++◌, length, take, get_or, Option, sym, ap, ◌∙◌}
use Rattle.std.specs.List.{filter_map, cons_option}
use Rattle.std.proofs.lemmas.List.{take_more}
use Rattle.std.proofs.lemmas.List.Elements.{filter_map-append}

-- what is found of one more item stands behind what was found before
pub found_more : {A B : Type 0} (f : A → Option B) (xs : List A) (i : ℕ) (x : A) (found now : List B) (o : Option B)
    → i < length xs → x ≡ get_or xs i x → found ≡ filter_map f (take i xs) → o ≡ f x
    → now ≡ found ++ cons_option o [] → now ≡ filter_map f (take (i + 1) xs)
found_more {A} {B} f xs i x found now o lt is before one step =
    step
    ∙ ap (λ (l : List B). l ++ cons_option o []) before
    ∙ ap (λ (p : Option B). filter_map f (take i xs) ++ cons_option p []) one
    ∙ sym (filter_map-append f (take i xs) (x ∷ []))
    ∙ ap (filter_map f) (ap (λ (y : A). take i xs ++ y ∷ []) is ∙ sym (take_more xs i x lt))
