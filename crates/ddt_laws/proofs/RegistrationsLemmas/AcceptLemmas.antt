-- Registers that stay accepted where a site has other ETRs: one rule alone looks at ETRs.
use Rattle.std.proofs.Common.{◌≡◌, ℕ, ◌≤◌, Bool, true, false, not, cond, List, [], ◌∷◌, ◌&&◌, ◌==◌, map, length, refl, ap, ◌∙◌}
use Rattle.std.specs.Prelude.{nat_lt}
use Rattle.std.specs.List.{list_any}
use Rattle.std.specs.Option.{option_map_or}
use Rattle.std.specs.Cmp.Lexicographic.{pointwise}
use Rattle.std.proofs.lemmas.Bool.{le-ltb, or_parts}
use Rattle.ddt_path.specs.declared.locator.Locator.{Locator}
use Rattle.ddt_path.specs.Covers.{is_same_path}
use Rattle.ddt_path.specs.Locators.{most_locators}
use Rattle.ddt_path.specs.Matching.{longest_match}
use Rattle.ddt_path.specs.laws.Member.{list_any-map}
use Rattle.ddt_register.specs.declared.zone.Zone.{Zone}
use Rattle.ddt_register.specs.declared.site.Site.{Site}
use Rattle.ddt_check.specs.declared.fault.Rule.TheVariants as rules
use Rattle.ddt_check.specs.Zones.{is_ms}
use Rattle.ddt_check.specs.Rules.{item_at, is_duplicate, has_too_many_etrs}
use Rattle.ddt_laws.specs.Registrations.RegisterLemmas.{row_with}
use Rattle.ddt_laws.specs.Registrations.Statements.{OtherEtrsAreAccepted}

-- tests that are one, item by item
any_alike : {A : Type 0} (test other : A → Bool) → ((a : A) → test a ≡ other a) → (xs : List A) → list_any test xs ≡ list_any other xs
any_alike test other h [] = refl
any_alike test other h (x ∷ xs) = rw (h x, any_alike test other h xs) refl

-- what no item passes, no changed item passes
none_kept : {A : Type 0} (test : A → Bool) (f : A → A) → ((a : A) → test a ≡ false → test (f a) ≡ false) → (xs : List A)
    → list_any test xs ≡ false → list_any test (map f xs) ≡ false
none_kept test f h [] e = refl
none_kept test f h (x ∷ xs) e =
    let parts = or_parts (test x) (list_any test xs) e in
    rw (h x parts.0, none_kept test f h xs parts.1) refl

-- the sites of a list, of which one in this row has the prefix of an earlier one
abbrev duplicate_in : List Site → ℕ → Bool
duplicate_in xs row = item_at (λ s. s.row) (is_duplicate (λ t. t.prefix) (λ t. t.row) xs) xs row

-- the sites of a list, of which one in this row lies in no zone of Map-Servers
abbrev outside_in : List Zone → List Site → ℕ → Bool
outside_in zs xs row =
    item_at (λ s. s.row) (λ s. option_map_or (λ z. not (is_ms z.kind)) (longest_match (λ z. z.prefix) zs s.prefix) true) xs row

too_many_case : (in_row b : Bool) (e etrs : List Locator) → length e ≤ most_locators → (in_row && nat_lt most_locators (length etrs)) ≡ false
    → (in_row && nat_lt most_locators (length (cond b e etrs))) ≡ false
too_many_case true true e etrs few h = le-ltb most_locators (length e) few
too_many_case true false e etrs few h = h
too_many_case false b e etrs few h = refl

module _ (p : List ℕ) (e : List Locator) where
  duplicates_kept : (xs : List Site) (row : ℕ) → duplicate_in (map (row_with p e) xs) row ≡ duplicate_in xs row
  duplicates_kept xs row =
      let among : List Site → Site → Bool = λ ys x. x.row == row && is_duplicate (λ (t : Site). t.prefix) (λ (t : Site). t.row) ys x in
      list_any-map (among (map (row_with p e) xs)) (row_with p e) xs
      ∙ any_alike (λ x. among (map (row_with p e) xs) (row_with p e x)) (among xs)
      (λ x. ap (λ (b : Bool). x.row == row && b)
      (list_any-map (λ (y : Site). nat_lt y.row x.row && pointwise ◌==◌ y.prefix x.prefix) (row_with p e) xs)) xs

  outside_kept : (zs : List Zone) (xs : List Site) (row : ℕ) → outside_in zs (map (row_with p e) xs) row ≡ outside_in zs xs row
  outside_kept zs xs row =
      list_any-map (λ (s : Site). s.row == row && option_map_or (λ (z : Zone). not (is_ms z.kind)) (longest_match (λ (z : Zone). z.prefix) zs s.prefix) true) (row_with p e) xs

  few_kept : length e ≤ most_locators → (xs : List Site) (row : ℕ) → item_at (λ s. s.row) has_too_many_etrs xs row ≡ false
      → item_at (λ s. s.row) has_too_many_etrs (map (row_with p e) xs) row ≡ false
  few_kept few xs row =
      none_kept (λ (s : Site). s.row == row && has_too_many_etrs s) (row_with p e)
      (λ s. too_many_case (s.row == row) (is_same_path s.prefix p) e s.etrs few) xs

pub accepted : OtherEtrsAreAccepted
accepted p e r s h few ok rules.DuplicateSite row =
    ap (λ (xs : List Site). duplicate_in xs row) h.sites ∙ duplicates_kept p e r.sites row ∙ ok rules.DuplicateSite row
accepted p e r s h few ok rules.SiteOutside row =
    ap (λ (zs : List Zone). outside_in zs s.sites row) h.zones ∙ ap (λ (xs : List Site). outside_in r.zones xs row) h.sites
    ∙ outside_kept p e r.zones r.sites row ∙ ok rules.SiteOutside row
accepted p e r s h few ok rules.TooManyEtrs row =
    ap (λ (xs : List Site). item_at (λ s. s.row) has_too_many_etrs xs row) h.sites ∙ few_kept p e few r.sites row (ok rules.TooManyEtrs row)
-- the other rules look at no site
accepted p e r s h few ok other row = simp (h.zones, h.groups) (ok other row)
