-- Identifiers of the prefixes that were given.
use Rattle.std.proofs.Common.{◌≡◌, ℕ, List, [], ◌∷◌, ◌++◌, map, sym, ap, subst, ◌∙◌}
use Rattle.std.proofs.lemmas.List.{append_assoc, append-nil, map_push}
use Rattle.std.specs.Prelude.{Result, MatchResult, ⊤}
use Rattle.ddt_path.specs.declared.xeid.Xeid.{Xeid}
use Rattle.ddt_path.specs.Path.{xeid_path}
use Rattle.ddt_plan.specs.Sinks.{HasTaken}
use Rattle.ddt_asking.specs.Identifiers.{AreInside, AddsInside, no_prefix, one_inside}

one_more_inside : (ps : List (List ℕ)) (p : List ℕ) (before after : List Xeid) → AreInside ps (map xeid_path before)
    → AddsInside p before after → AreInside (ps ++ p ∷ []) (map xeid_path after)
one_more_inside ps p before after so_far a =
    subst (λ (xs : List (List ℕ)). AreInside (ps ++ p ∷ []) xs)
    (sym (ap (map xeid_path) a.2 ∙ map_push xeid_path before a.0))
    (one_inside ps (map xeid_path before) p (xeid_path a.0) so_far a.1)

-- A sink S of items T that adds an identifier of each item's prefix to its own, and may refuse one for a reason R. After
-- all items are taken it has, behind those of before, one inside each prefix.
module _ (R : Type 0) {S T : Type 0} (prefix : T → List ℕ) (has : S → List Xeid) where
  abbrev takes : S → T → Result (Unit {0}) R → S → Type 0
  takes before item answer after =
      MatchResult answer (λ _. AddsInside (prefix item) (has before) (has after)) (λ _. ⊤)

  all_inside : (items : List T) (before after : S) (ps : List (List ℕ)) → AreInside ps (map xeid_path (has before))
      → HasTaken takes before items after → AreInside (ps ++ map prefix items) (map xeid_path (has after))
  all_inside [] before after ps so_far took =
      subst (λ (s : S). AreInside (ps ++ []) (map xeid_path (has s))) (sym took)
      (subst (λ (qs : List (List ℕ)). AreInside qs (map xeid_path (has before))) (sym (append-nil ps)) so_far)
  all_inside (item ∷ items) before after ps so_far took =
      subst (λ (qs : List (List ℕ)). AreInside qs (map xeid_path (has after)))
      (append_assoc ps (prefix item ∷ []) (map prefix items))
      (all_inside items took.0 after (ps ++ prefix item ∷ [])
      (one_more_inside ps (prefix item) (has before) (has took.0) so_far took.1)
      took.2)

  -- the same of a sink that has none before
  pub all_taken : (items : List T) (before after : S) → has before ≡ [] → HasTaken takes before items after
      → AreInside (map prefix items) (map xeid_path (has after))
  all_taken items before after empty took =
      all_inside items before after []
      (subst (λ (xs : List Xeid). AreInside [] (map xeid_path xs)) (sym empty) no_prefix) took
