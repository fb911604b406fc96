-- Zones, sites and groups that differ, as lines of fields that a tab divides.
use Rattle.std.specs.Prelude.{ℕ, List, [], ◌∷◌, ◌++◌, codes, if◌then◌else◌, Option, None, Some}
use Rattle.std.specs.List.{flat_map}
use Rattle.ddt_path.specs.declared.locator.Locator.{Locator}
use Rattle.ddt_path.specs.declared.record.Role.{Role}
use Rattle.ddt_path.specs.declared.record.Role.TheVariants.{Node, Ms}
use Rattle.ddt_check.specs.Zones.{is_same_role}
use Rattle.ddt_text.specs.Written.{written_locator, written_prefix}
use Rattle.ddt_lines.specs.Lines.{ended, spaced}
use Rattle.ddt_plan.specs.declared.items.ServingGroup.{ServingGroup}
use Rattle.ddt_plan.specs.declared.items.GroupServers.{GroupServers}
use Rattle.ddt_plan.specs.declared.items.ItemChange.{ItemChange}
use Rattle.ddt_plan.specs.Changes.{are_same_servers}

-- Addresses as a row of a register has them, a blank between two; `-` for none.
abbrev pub addresses_text : List Locator → List ℕ
addresses_text [] = codes "-"
addresses_text (l ∷ ls) = written_locator l ++ spaced ls

-- the same where the row may be missing
abbrev pub row_text : Option (List Locator) → List ℕ
row_text None = codes "-"
row_text (Some addresses) = addresses_text addresses

-- The kind of a zone, as a register has it.
abbrev pub role_word : Role → List ℕ
role_word Node = codes "node"
role_word Ms = codes "ms"

-- The kind of a zone and its group, a blank between them, or `-` where there is no such zone.
abbrev pub home_text : Option ServingGroup → List ℕ
home_text None = codes "-"
home_text (Some home) = role_word home.kind ++ codes " " ++ home.group

-- What happens to a site: it is new, it is gone, or it has other ETRs.
abbrev pub site_word : Option (List Locator) → Option (List Locator) → List ℕ
site_word None after = codes "added"
site_word (Some before) None = codes "removed"
site_word (Some before) (Some after) = codes "etrs"

-- a text before and a text after, each behind a tab
abbrev pub both_fields : List ℕ → List ℕ → List ℕ
both_fields before after = codes "\t" ++ before ++ codes "\t" ++ after

-- A site, what happens to it, its ETRs before and its ETRs after.
abbrev pub site_text : ItemChange (List ℕ) (List Locator) → List ℕ
site_text c =
    codes "site\t" ++ written_prefix c.key ++ codes "\t" ++ site_word c.before c.after
    ++ both_fields (row_text c.before) (row_text c.after)

-- A zone, and its kind and its group before and after.
abbrev pub zone_text : ItemChange (List ℕ) ServingGroup → List ℕ
zone_text c = codes "zone\t" ++ written_prefix c.key ++ both_fields (home_text c.before) (home_text c.after)

-- what a group has, by a word, before and after
abbrev pub group_field_text : List ℕ → List ℕ → List ℕ → List ℕ → List ℕ
group_field_text name word before after = codes "group\t" ++ name ++ codes "\t" ++ word ++ both_fields before after

-- the line of a group whose kind differs
abbrev pub kind_line : List ℕ → Role → Role → List ℕ
kind_line name before after =
    if is_same_role before after then []
    else ended (group_field_text name (codes "kind") (role_word before) (role_word after))

-- the line of a group whose locators differ
abbrev pub locators_line : List ℕ → Option (List Locator) → Option (List Locator) → List ℕ
locators_line name before after = ended (group_field_text name (codes "locators") (row_text before) (row_text after))

-- the same, if they differ
abbrev pub other_locators_line : List ℕ → List Locator → List Locator → List ℕ
other_locators_line name before after =
    if are_same_servers before after then [] else locators_line name (Some before) (Some after)

-- The lines of a group: its kind before and after where that differs, and its locators before and after where they
-- differ or where the group is new or gone.
abbrev pub group_lines : List ℕ → Option GroupServers → Option GroupServers → List ℕ
group_lines name None None = []
group_lines name None (Some after) = locators_line name None (Some after.locators)
group_lines name (Some before) None = locators_line name (Some before.locators) None
group_lines name (Some before) (Some after) =
    kind_line name before.kind after.kind ++ other_locators_line name before.locators after.locators
