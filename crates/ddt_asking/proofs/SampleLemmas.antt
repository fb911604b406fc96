-- The elements at places.
use Rattle.std.proofs.Common.{◌≡◌, ℕ, ◌+◌, ◌<◌, List, [], ◌∷◌, ◌++◌, length, get_or, take, map, sym, ap, ◌∙◌}
use Rattle.std.proofs.lemmas.List.{map_push, take_more}
use Rattle.std.specs.Prelude.{Option, Some, slice_get}
use Rattle.ddt_path.specs.declared.xeid.Xeid.{Xeid}

pub sampled_more : (xs : List Xeid) (places : List ℕ) (some : List Xeid) (i d : ℕ) (x : Xeid) → i < length places
    → slice_get xs (get_or places i d) ≡ Some x → map (slice_get xs) (take i places) ≡ map Some some
    → map (slice_get xs) (take (i + 1) places) ≡ map Some (some ++ x ∷ [])
sampled_more xs places some i d x here found so_far =
    ap (map (slice_get xs)) (take_more places i d here)
    ∙ map_push (slice_get xs) (take i places) (get_or places i d)
    ∙ ap (λ (ys : List (Option Xeid)). ys ++ slice_get xs (get_or places i d) ∷ []) so_far
    ∙ ap (λ (o : Option Xeid). map Some some ++ o ∷ []) found
    ∙ sym (map_push Some some x)
