-- The rows of the live entries inside a prefix, as the listed ends are gone through.
use Rattle.std.proofs.Common.{◌≡◌, ℕ, ◌≤◌, List, [], ◌∷◌, ◌++◌, get_or, Option, Some, None, Result, Ok, Err, refl, sym, subst, arith, inl, inr}
use Rattle.std.specs.Prelude.{All, Contains, IfOk}
use Rattle.std.specs.FinMap.{get}
use Rattle.std.specs.Ordering.{nat_cmp}
use Rattle.std.proofs.lemmas.Option.{none-some, same_Some}
use Rattle.std.proofs.lemmas.List.Elements.{All-push, All-contains, Contains-append_left, Contains-append_right}
use Rattle.std.proofs.lemmas.Map.Lookups.{exact_pairs, exact_unsigned, exact_bytes}
use Rattle.std.proofs.lemmas.Map.Views.{Contains-from_any, tells_apart}
use Rattle.ddt_trie.specs.PrefixMap.{path_cmp}
use Rattle.ddt_cache.specs.declared.cache_entry.Entry.{Entry}
use Rattle.ddt_cache.specs.declared.ends_by_time.Ends.{Ends}
use Rattle.ddt_cache.specs.Live.{Known, live_at}
use Rattle.ddt_cache.specs.Ends.{IsUnlisted, AreNoted}
use Rattle.ddt_cache.specs.Inside.{AreInside, IsRow}
use Rattle.ddt_cache.specs.laws.Live.{Entries, live_at-is, live_at-got}

abbrev pub Row : Type 0
Row = List ℕ × Entry

module _ (t : ℕ) (m : Entries) (within : List ℕ) where
  -- the rows that end as it is listed are among these
  abbrev pub HasRows : List Row → ℕ × List ℕ → Type 0
  HasRows rows k = (row : Row) → IsRow t m within row → row.1.end ≡ k.0 → row.0 ≡ k.1 → Contains rows row

  abbrev Found : ℕ × List ℕ → Option Row → Type 0
  Found k found = (row : Row) → IsRow t m within row → row.1.end ≡ k.0 → row.0 ≡ k.1 → found ≡ Some row

  pub each_more : (rows : List Row) (row : Row) → All (IsRow t m within) rows → IsRow t m within row → All (IsRow t m within) (rows ++ row ∷ [])
  each_more rows row each is = All-push (IsRow t m within) rows row each is

  pub all_more : (rows : List Row) (row : Row) (ks more : List (ℕ × List ℕ)) (k : ℕ × List ℕ) → more ≡ ks ++ k ∷ [] → All (HasRows rows) ks
      → Found k (Some row) → All (HasRows (rows ++ row ∷ [])) more
  all_more rows row ks more k is all found = subst (All (HasRows (rows ++ row ∷ []))) (sym is)
      (All-push (HasRows (rows ++ row ∷ [])) ks k
      (λ i d lt r its e p. Contains-append_left rows (row ∷ []) r (all i d lt r its e p))
      (λ r its e p. Contains-append_right rows (row ∷ []) r (0, omega arith, same_Some row r (found r its e p))))

  pub all_same : (rows : List Row) (ks more : List (ℕ × List ℕ)) (k : ℕ × List ℕ) → more ≡ ks ++ k ∷ [] → All (HasRows rows) ks
      → Found k None → All (HasRows rows) more
  all_same rows ks more k is all found =
      subst (All (HasRows rows)) (sym is) (All-push (HasRows rows) ks k all (λ r its e p. absurd (none-some r (found r its e p))))

  -- each live entry is listed, where what isn't listed has ended
  pub all_listed : (ends : Ends) (rows : List Row) (ks : List (ℕ × List ℕ)) → AreNoted ends m → ((n : ℕ) → IsUnlisted ends n → n ≤ t)
      → ks ≡ ends.listed.keys → All (HasRows rows) ks → (row : Row) → IsRow t m within row → Contains rows row
  all_listed ends rows ks noted ended is all row its = elim (noted row.0 row.1 its.0) [
    | inl listed ↦
        let there : Contains ends.listed.keys (row.1.end, row.0) =
        Contains-from_any (tells_apart (exact_pairs nat_cmp path_cmp exact_unsigned exact_bytes)) (row.1.end, row.0) ends.listed.keys listed in
        All-contains (HasRows rows) ks (row.1.end, row.0) all (subst (λ (l : List (ℕ × List ℕ)). Contains l (row.1.end, row.0)) (sym is) there) row its refl refl
    | inr unlisted ↦ let past : row.1.end ≤ t = ended row.1.end unlisted in absurd (omega (arith, past, its.1))
  ]

  -- the rows of entries some of which may have ended are those of the live ones
  pub rows_inside : (k : Known) (rows : List Row) → k.live ≡ live_at t m → All (IsRow t m within) rows
      → ((row : Row) → IsRow t m within row → Contains rows row) → AreInside k within rows
  rows_inside k rows is each all = record {
    each = λ i d lt.
        let its = each i d lt in
        (subst (λ (l : Entries). get l (get_or rows i d).0 ≡ Some (get_or rows i d).1) (sym is) (live_at-got t m _ _ its.0 its.1), its.2);
    all = λ row its.
        let was = live_at-is t m row.0 row.1 (subst (λ (l : Entries). get l row.0 ≡ Some row.1) is its.0) in
        all row (was.0, was.1, its.1);
  }

  -- so it is where they are answered
  pub answered_inside : {A E : Type 0} (result : Result A E) (items : A → List Row) (k : Known) → k.live ≡ live_at t m
      → IfOk result (λ a. All (IsRow t m within) (items a)) → IfOk result (λ a. (row : Row) → IsRow t m within row → Contains (items a) row)
      → IfOk result (λ a. AreInside k within (items a))
  answered_inside (Ok a) items k is each all = rows_inside k (items a) is each all
  answered_inside (Err e) items k is each all = tt
