-- No number that is written has a fraction.
use Rattle.std.proofs.Common.{◌≡◌, ℕ, false, List, [], ◌∷◌, Option, None, Some, codes, refl}
use Rattle.serde_json.specs.Data.{Items}
use Rattle.serde_json.specs.Written.{has_float, items_have_float}
use Rattle.ddt_path.specs.declared.locator.Locator.{Locator}
use Rattle.ddt_path.specs.declared.record.Outcome.{Outcome}
use Rattle.ddt_path.specs.declared.record.Outcome.TheVariants.{Registered, NotRegistered, Hole}
use Rattle.ddt_plan.specs.declared.block_list.Block.{Block}
use Rattle.ddt_plan.specs.declared.change_list.Change.{Change}
use Rattle.ddt_plan.specs.declared.items.ServingGroup.{ServingGroup}
use Rattle.ddt_plan.specs.declared.items.GroupServers.{GroupServers}
use Rattle.ddt_plan.specs.declared.items.ItemChange.{ItemChange}
use Rattle.ddt_plan_commands.specs.declared.review.Review.{Review}
use Rattle.ddt_plan_commands.specs.ItemObjects.{group_servers_data, home_data, row_data, servers_data, site_data, zone_data}
use Rattle.ddt_plan_commands.specs.Summary.{summary_data}
use Rattle.ddt_plan_commands.specs.Objects.{server_items, kind_data, outcome_data, block_data, change_data}

servers : (ls : List Locator) → items_have_float (server_items ls) ≡ false
servers [] = refl
servers (l ∷ ls) = servers ls

kind : (name prefix : List ℕ) (ls : List Locator) → has_float (kind_data name prefix ls) ≡ false
kind name prefix ls = rw (servers ls) refl

outcome : (o : Outcome) → has_float (outcome_data o) ≡ false
outcome (Registered p s) = kind (codes "registered") p s
outcome (NotRegistered p s) = kind (codes "not-registered") p s
outcome (Hole p) = kind (codes "hole") p []

pub block : (b : Block) → has_float (block_data b) ≡ false
block b = rw (outcome b.outcome) refl

pub change : (c : Change) → has_float (change_data c) ≡ false
change c = rw (outcome c.after, outcome c.before) refl

row : (o : Option (List Locator)) → has_float (row_data o) ≡ false
row None = refl
row (Some ls) = servers ls

home : (o : Option ServingGroup) → has_float (home_data o) ≡ false
home None = refl
home (Some h) = refl

group_servers : (o : Option GroupServers) → has_float (servers_data o) ≡ false
group_servers None = refl
group_servers (Some s) = rw (servers s.locators) refl

pub site : (c : ItemChange (List ℕ) (List Locator)) → has_float (site_data c) ≡ false
site c = rw (row c.after, row c.before) refl

pub zone : (c : ItemChange (List ℕ) ServingGroup) → has_float (zone_data c) ≡ false
zone c = rw (home c.after, home c.before) refl

pub group : (c : ItemChange (List ℕ) GroupServers) → has_float (group_servers_data c) ≡ false
group c = rw (group_servers c.after, group_servers c.before) refl

pub summary : (v : Review) → has_float (summary_data v) ≡ false
summary v = refl

pub ruleset no_floats = (block, change, site, zone, group, summary)
