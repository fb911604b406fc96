-- A register whose sites have other ETRs: its rows and its numbers are those of a register.
use Rattle.std.proofs.Common.{◌≡◌, ℕ, Bool, true, false, cond, List, map, refl, ap, ◌∙◌}
use Rattle.std.specs.Prelude.{◌&&◌, if◌then◌else◌}
use Rattle.std.specs.List.{list_all}
use Rattle.std.proofs.lemmas.Bool.{and_parts, and_from}
use Rattle.ddt_path.specs.declared.locator.Locator.{Locator}
use Rattle.ddt_path.specs.Covers.{is_same_path}
use Rattle.ddt_path.specs.Path.{is_prefix_path}
use Rattle.ddt_register.specs.declared.site.Site.{Site}
use Rattle.ddt_register.specs.declared.register.Register.{Register}
use Rattle.ddt_register.specs.Ranges.{are_locators, is_zone_in_range, is_site_in_range, is_in_range}
use Rattle.ddt_register.specs.Rows.{rise, are_apart, zone_rows, group_rows, are_rows}
use Rattle.ddt_register.specs.laws.Range.{zones_in_range, sites_in_range, groups_in_range}
use Rattle.ddt_node.specs.laws.Changed.{map_kept, all_kept}

-- a site of this prefix with these ETRs; any other as it is
abbrev pub row_with : List ℕ → List Locator → Site → Site
row_with p e s = record { prefix = s.prefix; etrs = if is_same_path s.prefix p then e else s.etrs; row = s.row }

-- the rows that the sites of a register may have, by its other rows
abbrev may_have : Register → List ℕ → Bool
may_have r rows =
    (rise 0 (zone_rows r.zones) && (rise 0 rows && rise 0 (group_rows r.groups)))
    && (are_apart (zone_rows r.zones) rows && (are_apart (zone_rows r.zones) (group_rows r.groups)
    && are_apart rows (group_rows r.groups)))

pub rows_stay : (p : List ℕ) (e : List Locator) (r : Register) → are_rows r.zones (map (row_with p e) r.sites) r.groups ≡ true
rows_stay p e r = ap (may_have r) (map_kept (λ (s : Site). s.row) (row_with p e) (λ s. refl) r.sites) ∙ r.rows

chosen_fit : (b : Bool) (e etrs : List Locator) → are_locators e ≡ true → are_locators etrs ≡ true → are_locators (cond b e etrs) ≡ true
chosen_fit true e etrs new old = new
chosen_fit false e etrs new old = old

row_fits : (p : List ℕ) (e : List Locator) → are_locators e ≡ true → (s : Site) → is_site_in_range s ≡ true → is_site_in_range (row_with p e s) ≡ true
row_fits p e new s old =
    let parts = and_parts (is_prefix_path s.prefix) (are_locators s.etrs) old in
    and_from (is_prefix_path s.prefix) _ parts.0 (chosen_fit (is_same_path s.prefix p) e s.etrs new parts.1)

pub range_stays : (p : List ℕ) (e : List Locator) → are_locators e ≡ true → (r : Register)
    → is_in_range r.zones (map (row_with p e) r.sites) r.groups ≡ true
range_stays p e new r =
    and_from (list_all is_zone_in_range r.zones) _ (zones_in_range r)
    (and_from (list_all is_site_in_range (map (row_with p e) r.sites)) _
    (all_kept is_site_in_range (row_with p e) (row_fits p e new) r.sites (sites_in_range r))
    (groups_in_range r))
