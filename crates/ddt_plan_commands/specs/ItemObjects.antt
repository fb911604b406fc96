-- Zones, sites and groups that differ as JSON objects, whose members stand in the order of their names.
use Rattle.std.specs.Prelude.{ℕ, List, codes, Option, None, Some}
use Rattle.serde_json.specs.Data.{Data, null, string, array, object, member, no_members}
use Rattle.ddt_path.specs.declared.locator.Locator.{Locator}
use Rattle.ddt_plan.specs.declared.items.ServingGroup.{ServingGroup}
use Rattle.ddt_plan.specs.declared.items.GroupServers.{GroupServers}
use Rattle.ddt_plan.specs.declared.items.ItemChange.{ItemChange}
use Rattle.ddt_plan_commands.specs.Items.{role_word}
use Rattle.ddt_plan_commands.specs.Objects.{prefix_data, server_items}

-- Addresses in the order of their row, or null where there is no such row.
abbrev pub row_data : Option (List Locator) → Data
row_data None = null
row_data (Some addresses) = array (server_items addresses)

-- The group and the kind of a zone, or null where there is no such zone.
abbrev pub home_data : Option ServingGroup → Data
home_data None = null
home_data (Some home) =
    object (member (codes "group") (string home.group) (member (codes "kind") (string (role_word home.kind)) no_members))

-- The kind and the locators of a group, or null where there is no such group.
abbrev pub servers_data : Option GroupServers → Data
servers_data None = null
servers_data (Some servers) =
    object (member (codes "kind") (string (role_word servers.kind))
    (member (codes "locators") (array (server_items servers.locators)) no_members))

-- what is there after and before, and of what
abbrev pub both_data : Data → Data → List ℕ → Data → Data
both_data after before name key =
    object (member (codes "after") after (member (codes "before") before (member name key no_members)))

-- A site: its ETRs after and before, and its prefix.
abbrev pub site_data : ItemChange (List ℕ) (List Locator) → Data
site_data c = both_data (row_data c.after) (row_data c.before) (codes "site") (prefix_data c.key)

-- A zone: its group and kind after and before, and its prefix.
abbrev pub zone_data : ItemChange (List ℕ) ServingGroup → Data
zone_data c = both_data (home_data c.after) (home_data c.before) (codes "zone") (prefix_data c.key)

-- A group: its kind and locators after and before, and its name.
abbrev pub group_servers_data : ItemChange (List ℕ) GroupServers → Data
group_servers_data c = both_data (servers_data c.after) (servers_data c.before) (codes "group") (string c.key)
