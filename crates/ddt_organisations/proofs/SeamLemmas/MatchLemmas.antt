-- Two lists of which each item has its like in the other: their longest matches are alike, and so are their holes.
use Rattle.std.proofs.Common.{◌≡◌, ℕ, ◌<◌, ◌≤◌, Bool, true, false, not, List, [], ◌∷◌, length, map, Some, None, refl, sym, ap, subst, ◌∙◌, arith, inl, inr}
use Rattle.std.specs.Prelude.{◌&&◌, unwrap_or, Option}
use Rattle.std.specs.List.{list_any, list_all, filter}
use Rattle.std.proofs.lemmas.Bool.{and_parts, both_ways, false_from_ne_true, cases_lt, not-true}
use Rattle.ddt_path.specs.declared.matches.Preference.TheVariants.{Longest}
use Rattle.ddt_path.specs.Covers.{covers, overlaps, is_strictly_below}
use Rattle.ddt_path.specs.Free.{overlaps_none, hole_of}
use Rattle.ddt_path.specs.Matching.{best_match}
use Rattle.ddt_path.specs.laws.Front.{one_front}
use Rattle.ddt_path.specs.laws.Filter.{in_filter, filter_in}
use Rattle.ddt_path.specs.laws.Hole.{free_agree}
use Rattle.ddt_path.specs.laws.Matching.{best_is, best_member, best_none, best_there, best_unbeaten}
use Rattle.ddt_path.specs.laws.Member.{IsIn, iff_same, all_of, holds_at, fails_at, any_in, in_map, map_in}
use Rattle.ddt_config.specs.Shaped.{no_two}
use Rattle.ddt_plan.specs.Groups.{are_alike}

-- ---- no two of a list clash

pub one_of_no_two : {A : Type 0} (clash : A → A → Bool) (xs : List A) → no_two clash xs ≡ true → (a b : A) → IsIn a xs
    → IsIn b xs → clash a b ≡ true → clash b a ≡ true → a ≡ b
one_of_no_two clash [] e a b j k c d = absurd j
one_of_no_two clash (x ∷ xs) e a b (inl here) (inl there) c d = here ∙ sym there
one_of_no_two clash (x ∷ xs) e a b (inl here) (inr later) c d =
    let p = and_parts (not (list_any (clash x) xs)) (no_two clash xs) e in
    absurd (both_ways (clash x b) (fails_at (clash x) xs b (not-true (list_any (clash x) xs) p.0) later)
    (subst (λ y. clash y b ≡ true) here c))
one_of_no_two clash (x ∷ xs) e a b (inr later) (inl there) c d =
    let p = and_parts (not (list_any (clash x) xs)) (no_two clash xs) e in
    absurd (both_ways (clash x a) (fails_at (clash x) xs a (not-true (list_any (clash x) xs) p.0) later)
    (subst (λ y. clash y a ≡ true) there d))
one_of_no_two clash (x ∷ xs) e a b (inr first) (inr second) c d =
    one_of_no_two clash xs (and_parts (not (list_any (clash x) xs)) (no_two clash xs) e).1 a b first second c d

-- ---- two lists that are alike

module _ {A : Type 0} (prefix : A → List ℕ) (same : A → A → Bool)
    (one_prefix : (a b : A) → same a b ≡ true → prefix a ≡ prefix b) (xs ys : List A)
    (alike : are_alike same xs ys ≡ true) where
  abbrev likes : A → Bool
  likes x = list_any (λ y. same x y) ys

  abbrev liked : A → Bool
  liked y = list_any (λ x. same x y) xs

  forth : (a : A) → IsIn a xs → (b : A) × IsIn b ys × (same a b ≡ true)
  forth a k = any_in (λ y. same a y) ys (holds_at likes xs a (and_parts (list_all likes xs) (list_all liked ys) alike).0 k)

  back : (b : A) → IsIn b ys → (a : A) × IsIn a xs × (same a b ≡ true)
  back b k = any_in (λ x. same x b) xs (holds_at liked ys b (and_parts (list_all likes xs) (list_all liked ys) alike).1 k)

  -- the same prefixes
  pub path_forth : (p : List ℕ) → IsIn p (map prefix xs) → IsIn p (map prefix ys)
  path_forth p k =
      let a = in_map prefix xs p k in
      let b = forth a.0 a.1 in
      subst (λ (q : List ℕ). IsIn q (map prefix ys)) (sym (a.2 ∙ one_prefix a.0 b.0 b.2)) (map_in prefix ys b.0 b.1)

  pub path_back : (p : List ℕ) → IsIn p (map prefix ys) → IsIn p (map prefix xs)
  path_back p k =
      let b = in_map prefix ys p k in
      let a = back b.0 b.1 in
      subst (λ (q : List ℕ). IsIn q (map prefix xs)) (one_prefix a.0 b.0 a.2 ∙ sym b.2) (map_in prefix xs a.0 a.1)

  module _ (own : (b c : A) → IsIn b ys → IsIn c ys → prefix b ≡ prefix c → b ≡ c) (x : List ℕ) where
    -- the longest match has its like
    pub match_alike : (a : A) → best_match Longest prefix xs x ≡ Some a
        → (b : A) × (best_match Longest prefix ys x ≡ Some b) × (same a b ≡ true)
    match_alike a e =
        let p = best_member Longest prefix x xs a e in
        let f = forth a p.0 in
        let over : covers (prefix f.0) x ≡ true = subst (λ (q : List ℕ). covers q x ≡ true) (one_prefix a f.0 f.2) p.1 in (
          f.0,
          best_is Longest prefix x ys f.0 f.1 over (λ c k d.
              let g = back c k in
              let same_path = one_prefix g.0 c g.2 in
              let there : covers (prefix g.0) x ≡ true = subst (λ (q : List ℕ). covers q x ≡ true) (sym same_path) d in
              let most : length (prefix g.0) ≤ length (prefix a) = best_unbeaten Longest prefix x xs a g.0 e g.1 there in
              let le : length (prefix c) ≤ length (prefix f.0) =
              subst (λ (q : List ℕ). length q ≤ length (prefix f.0)) same_path
              (subst (λ (q : List ℕ). length (prefix g.0) ≤ length q) (one_prefix a f.0 f.2) most) in
              elim (cases_lt (length (prefix c)) (length (prefix f.0))) [
                | inl lt ↦ inr lt
                | inr ge ↦ inl (own c f.0 k f.1 (one_front (prefix c) (prefix f.0) x d over (omega arith)))
              ]),
          f.2,
        )

    pub none_alike : best_match Longest prefix xs x ≡ None → best_match Longest prefix ys x ≡ None
    none_alike e =
        best_none Longest prefix x ys (λ c k. false_from_ne_true (covers (prefix c) x) (λ d.
        let g = back c k in
        best_there Longest prefix x xs g.0 e g.1
        (subst (λ (q : List ℕ). covers q x ≡ true) (sym (one_prefix g.0 c g.2)) d)))

-- ---- two lists of the same paths

module _ (ps qs : List (List ℕ)) (forth : (p : List ℕ) → IsIn p ps → IsIn p qs)
    (back : (p : List ℕ) → IsIn p qs → IsIn p ps) where
  abbrev clears : List ℕ → List ℕ → Bool
  clears q p = not (overlaps p q)

  same_none : (q : List ℕ) → overlaps_none ps q ≡ overlaps_none qs q
  same_none q = iff_same (overlaps_none ps q) (overlaps_none qs q)
      (λ e. all_of (clears q) qs (λ p k. holds_at (clears q) ps p e (back p k)))
      (λ e. all_of (clears q) ps (λ p k. holds_at (clears q) qs p e (forth p k)))

  pub same_hole : (authority x : List ℕ) → hole_of authority ps x ≡ hole_of authority qs x
  same_hole authority x = ap (λ (o : Option (List ℕ)). unwrap_or o x) (free_agree authority ps qs x same_none)

  pub kept_forth : (test : List ℕ → Bool) (p : List ℕ) → IsIn p (filter test ps) → IsIn p (filter test qs)
  kept_forth test p k = let e = in_filter test ps p k in filter_in test qs p (forth p e.0) e.1

  pub kept_back : (test : List ℕ → Bool) (p : List ℕ) → IsIn p (filter test qs) → IsIn p (filter test ps)
  kept_back test p k = let e = in_filter test qs p k in filter_in test ps p (back p e.0) e.1
