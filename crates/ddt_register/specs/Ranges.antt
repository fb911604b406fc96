-- Whether the numbers of a register's items are in the ranges of their types: prefixes are fronts of paths, names are
-- names, and locators fit their family. Every register passes.
use Rattle.std.specs.Prelude.{Bool, ◌&&◌, ◌^◌, nat_lt, List}
use Rattle.std.specs.List.{list_all}
use Rattle.ddt_path.specs.declared.locator.Locator.{Locator}
use Rattle.ddt_path.specs.Path.{address_number, address_width, is_prefix_path}
use Rattle.ddt_path.specs.Names.{is_name}
use Rattle.ddt_register.specs.declared.zone.Zone.{Zone}
use Rattle.ddt_register.specs.declared.site.Site.{Site}
use Rattle.ddt_register.specs.declared.group.Group.{Group}

-- each number has at most the digits of its family
abbrev pub are_locators : List Locator → Bool
are_locators ls = list_all (λ l. nat_lt (address_number l) (2 ^ address_width l)) ls

-- the prefix is one, and the name is one
abbrev pub is_zone_in_range : Zone → Bool
is_zone_in_range z = is_prefix_path z.prefix && is_name z.group

-- the prefix is one, and its ETRs are locators
abbrev pub is_site_in_range : Site → Bool
is_site_in_range s = is_prefix_path s.prefix && are_locators s.etrs

-- the name is one, and its locators are
abbrev pub is_group_in_range : Group → Bool
is_group_in_range g = is_name g.name && are_locators g.locators

-- all items of three lists are in range
abbrev pub is_in_range : List Zone → List Site → List Group → Bool
is_in_range zones sites groups = list_all is_zone_in_range zones
    && (list_all is_site_in_range sites && list_all is_group_in_range groups)
