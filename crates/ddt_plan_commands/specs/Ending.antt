-- What stands before the lines of the changes, and behind them.
use Rattle.std.specs.Prelude.{ℕ, Bool, List, [], ◌++◌, codes, if◌then◌else◌}
use Rattle.std.specs.List.{flat_map}
use Rattle.serde_json.specs.Written.{compact_text}
use Rattle.ddt_path.specs.declared.locator.Locator.{Locator}
use Rattle.ddt_lines.specs.Lines.{ended}
use Rattle.ddt_plan.specs.declared.change_list.Change.{Change}
use Rattle.ddt_plan.specs.declared.items.ServingGroup.{ServingGroup}
use Rattle.ddt_plan.specs.declared.items.GroupServers.{GroupServers}
use Rattle.ddt_plan.specs.declared.items.ItemChange.{ItemChange}
use Rattle.ddt_plan.specs.declared.items.ItemChanges.{ItemChanges}
use Rattle.ddt_plan_commands.specs.declared.arguments.Form.{Form}
use Rattle.ddt_plan_commands.specs.declared.arguments.Form.TheVariants.{Text, Json}
use Rattle.ddt_plan_commands.specs.declared.review.Review.{Review}
use Rattle.ddt_plan_commands.specs.Items.{site_text, zone_text, group_lines}
use Rattle.ddt_plan_commands.specs.ItemObjects.{site_data, zone_data, group_servers_data}
use Rattle.ddt_plan_commands.specs.Review.{is_different}
use Rattle.ddt_plan_commands.specs.Summary.{summary_in}
use Rattle.ddt_plan_commands.specs.Written.{negative_cache, parting, server_cache, written_change, written_group}

-- The line of a site that differs.
abbrev pub written_site : Form → ItemChange (List ℕ) (List Locator) → List ℕ
written_site Text c = ended (site_text c)
written_site Json c = ended (compact_text (site_data c))

-- The line of a zone that differs.
abbrev pub written_zone : Form → ItemChange (List ℕ) ServingGroup → List ℕ
written_zone Text c = ended (zone_text c)
written_zone Json c = ended (compact_text (zone_data c))

-- The lines of a group whose kind or locators differ.
abbrev pub written_servers : Form → ItemChange (List ℕ) GroupServers → List ℕ
written_servers Text c = group_lines c.key c.before c.after
written_servers Json c = ended (compact_text (group_servers_data c))

-- All sites, zones and groups that differ, in this order.
abbrev pub written_items : Form → ItemChanges → List ℕ
written_items form items =
    flat_map (written_site form) items.sites.items ++ flat_map (written_zone form) items.zones.items
    ++ flat_map (written_servers form) items.groups.items

-- For how long caches answer the old way: the line for negative answers only where a changed block had one before, and
-- that for servers only where a referral is out of date.
abbrev pub written_caches : Form → Bool → Bool → List ℕ
written_caches form negative outdated =
    (if negative then negative_cache form else []) ++ (if outdated then server_cache form else [])

-- What stands before the changes, if anything differs: the summary.
abbrev pub written_heading : Form → Review → List ℕ
written_heading form v = if is_different v then summary_in form v ++ parting form else []

-- What stands behind the changes, if anything differs: the zones, sites and groups that differ, the groups whose
-- configuration changes, and for how long caches answer the old way.
abbrev pub written_ending : Form → Review → List ℕ
written_ending form v =
    if is_different v
    then parting form ++ written_items form v.items ++ flat_map (written_group form) v.groups.items
    ++ written_caches form v.effects.negative v.outdated
    else []

-- the summary, the changes, and what stands behind them
abbrev pub written_changes : Form → Review → List Change → List ℕ
written_changes form v all = written_heading form v ++ (flat_map (written_change form) all ++ written_ending form v)
