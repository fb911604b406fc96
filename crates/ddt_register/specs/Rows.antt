-- The rows of a register. A row is 1 to 65,535; rows rise within each list, and no row stands twice.
use Rattle.std.specs.Prelude.{ℕ, Bool, true, ◌==◌, ◌&&◌, not, nat_lt, nat_le, List, [], ◌∷◌, map, find, Option}
use Rattle.std.specs.Option.{option_map}
use Rattle.std.specs.List.{list_any, list_all}
use Rattle.ddt_register.specs.declared.zone.Zone.{Zone}
use Rattle.ddt_register.specs.declared.site.Site.{Site}
use Rattle.ddt_register.specs.declared.group.Group.{Group}

-- how many rows a register has at most
abbrev pub most_rows : ℕ
most_rows = 65535

-- each row is above the one before it, the first above last, and none is above 65,535
abbrev pub rise : ℕ → List ℕ → Bool
rise last [] = true
rise last (row ∷ rows) = (nat_lt last row && nat_le row most_rows) && rise row rows

-- whether a row is one of the list
abbrev pub has_row : List ℕ → ℕ → Bool
has_row rows row = list_any (λ r. r == row) rows

-- no row of the one list stands in the other
abbrev pub are_apart : List ℕ → List ℕ → Bool
are_apart rows others = list_all (λ row. not (has_row others row)) rows

-- The row of each zone, in the order of the list.
abbrev pub zone_rows : List Zone → List ℕ
zone_rows zones = map (λ z. z.row) zones

-- The row of each site, in the order of the list.
abbrev pub site_rows : List Site → List ℕ
site_rows sites = map (λ s. s.row) sites

-- The row of each server group, in the order of the list.
abbrev pub group_rows : List Group → List ℕ
group_rows groups = map (λ g. g.row) groups

-- The rows of a register: within each of the three lists they rise, from 1 to at most 65,535, and no row stands in two
-- lists. Items whose rows are not so make no register.
abbrev pub are_rows : List Zone → List Site → List Group → Bool
are_rows zones sites groups =
    (rise 0 (zone_rows zones) && (rise 0 (site_rows sites) && rise 0 (group_rows groups)))
    && (are_apart (zone_rows zones) (site_rows sites) && (are_apart (zone_rows zones) (group_rows groups)
    && are_apart (site_rows sites) (group_rows groups)))

-- the row of the first item that passes a test
abbrev pub first_row : {A : Type 0} → (A → ℕ) → (A → Bool) → List A → Option ℕ
first_row row test items = option_map row (find test items)
