-- What differs between two registers, apart from the lines of the blocks.
use Rattle.std.specs.Prelude.{ℕ, ◌≡◌, Bool, true, false, ◌&&◌, ◌||◌, not, List, [], count_by, Option, None, Some}
use Rattle.ddt_register.specs.declared.register.Register.{Register}
use Rattle.ddt_plan.specs.declared.change_list.Change.{Change}
use Rattle.ddt_plan.specs.declared.items.ItemChange.{ItemChange}
use Rattle.ddt_plan.specs.declared.items.ItemChanges.{ItemChanges}
use Rattle.ddt_plan.specs.declared.outcomes.Reading.{Reading}
use Rattle.ddt_plan.specs.Changes.{AreChanges}
use Rattle.ddt_plan.specs.Groups.{AreGroupChanges}
use Rattle.ddt_plan.specs.Items.{AreItemChanges}
use Rattle.ddt_plan_commands.specs.declared.review.Review.{Review}
use Rattle.ddt_plan_commands.specs.declared.row_tally.RowTally.{RowTally}
use Rattle.ddt_plan_commands.specs.Effects.{effects_of}
use Rattle.ddt_plan_commands.specs.Referrals.{has_outdated}
use Rattle.ddt_plan_commands.specs.Written.{has_some}

-- only the earlier register has it
abbrev pub is_lost : {V : Type 0} → Option V → Option V → Bool
is_lost (Some before) None = true
is_lost (Some before) (Some after) = false
is_lost None after = false

-- only the later register has it
abbrev pub is_gained : {V : Type 0} → Option V → Option V → Bool
is_gained before after = is_lost after before

-- both registers have it
abbrev pub is_kept : {V : Type 0} → Option V → Option V → Bool
is_kept (Some before) (Some after) = true
is_kept (Some before) None = false
is_kept None after = false

-- how many of some changes are such
abbrev pub how_many : {K V : Type 0} → (Option V → Option V → Bool) → List (ItemChange K V) → ℕ
how_many is_such changes = count_by (λ c. is_such c.before c.after) changes

-- How many of some changes are of rows that are gone, that are new, and that differ.
abbrev pub tally_of : {K V : Type 0} → List (ItemChange K V) → RowTally
tally_of changes = record {
  lost = how_many is_lost changes;
  gained = how_many is_gained changes;
  changed = how_many is_kept changes;
}

-- a zone, a site or a group differs
abbrev pub has_items : ItemChanges → Bool
has_items items = has_some items.zones.items || (has_some items.sites.items || has_some items.groups.items)

-- something differs: a block, the configuration of a group, or a zone, a site or a group itself
abbrev pub is_different : Review → Bool
is_different v = v.effects.some || (has_some v.groups.items || has_items v.items)

-- What was found is what differs: what the changes of the blocks do, the groups whose configuration changes, the zones,
-- sites and groups that differ, and whether a referral in caches is out of date.
pub record IsReview (reading : Reading) (before after : Register) (v : Review) : Type 0 where
  pub effects : (all : List Change) × AreChanges reading before after [] all × (v.effects ≡ effects_of all)
  pub groups : AreGroupChanges before after v.groups.items
  pub items : AreItemChanges before after v.items
  pub outdated : v.outdated ≡ has_outdated before after
