-- What changes do to identifiers: how many blocks and addresses of each kind there are.
use Rattle.std.specs.Prelude.{ℕ, ◌+◌, ◌-◌, ◌^◌, ◌==◌, min, Bool, true, false, ◌&&◌, ◌||◌, not, List, cond, if◌then◌else◌, count_by, sum_by, length, slice_get, Option, None, Some, Result, Ok, Err, ◌≡◌}
use Rattle.std.specs.List.{list_any}
use Rattle.ddt_path.specs.declared.locator.Locator.{Locator}
use Rattle.ddt_path.specs.declared.record.Outcome.{Outcome}
use Rattle.ddt_path.specs.declared.record.Outcome.TheVariants.{Registered, NotRegistered, Hole}
use Rattle.ddt_plan.specs.declared.change_list.Change.{Change}
use Rattle.ddt_plan.specs.Changes.{are_same_servers}
use Rattle.ddt_plan_commands.specs.declared.block_lines.LineFault.{LineFault}
use Rattle.ddt_plan_commands.specs.declared.effects.Effects.{Effects}
use Rattle.ddt_plan_commands.specs.declared.extent.Extent.{Extent}
use Rattle.ddt_plan_commands.specs.Written.{has_some, is_hole, was_negative}

-- a number, and 2^128 - 1 for each above it
abbrev pub capped : ℕ → ℕ
capped n = min n (2 ^ 128 - 1)

-- How many IPv4 addresses n digits leave: in a range of instances, of which each has 2^32, or after the family's digit.
abbrev pub ipv4_left : Option ℕ → ℕ → ℕ
ipv4_left None n = 2 ^ (64 - n)
ipv4_left (Some family) n = if family == 4 then 2 ^ (65 - n) else 0

-- The same of IPv6, of which each instance has 2^128.
abbrev pub ipv6_left : Option ℕ → ℕ → ℕ
ipv6_left None n = 2 ^ (160 - n)
ipv6_left (Some family) n = if family == 4 then 0 else 2 ^ (161 - n)

-- How many IPv4 addresses a prefix covers, those of one instance apart from those of another.
abbrev pub ipv4_in : List ℕ → ℕ
ipv4_in prefix = ipv4_left (slice_get prefix 32) (length prefix)

-- How many IPv6 addresses it covers.
abbrev pub ipv6_in : List ℕ → ℕ
ipv6_in prefix = ipv6_left (slice_get prefix 32) (length prefix)

-- the servers that an outcome has; a hole has none
abbrev pub servers_in : Outcome → Option (List Locator)
servers_in (Registered p servers) = Some servers
servers_in (NotRegistered p servers) = Some servers
servers_in (Hole p) = None

-- both have servers, and not the same
abbrev pub are_other_servers : Option (List Locator) → Option (List Locator) → Bool
are_other_servers None after = false
are_other_servers (Some before) None = false
are_other_servers (Some before) (Some after) = not (are_same_servers before after)

-- The identifiers were delegated, and now lie in a hole.
abbrev pub becomes_hole : Change → Bool
becomes_hole c = not (is_hole c.before) && is_hole c.after

-- the site has an ETR
abbrev pub is_registered : Outcome → Bool
is_registered (Registered p servers) = true
is_registered (NotRegistered p servers) = false
is_registered (Hole p) = false

-- The identifiers were registered, and now lie in a site that isn't.
abbrev pub loses_registration : Change → Bool
loses_registration c = is_registered c.before && not (is_registered c.after || is_hole c.after)

-- The identifiers keep Map-Servers, but others than they had.
abbrev pub changes_servers : Change → Bool
changes_servers c = are_other_servers (servers_in c.before) (servers_in c.after)

-- How many of the changes are such, and how many addresses these cover.
abbrev pub extent_of : (Change → Bool) → List Change → Extent
extent_of counts all = record {
  blocks = capped (count_by counts all);
  ipv4 = capped (sum_by (λ c. cond (counts c) (ipv4_in c.prefix) 0) all);
  ipv6 = capped (sum_by (λ c. cond (counts c) (ipv6_in c.prefix) 0) all);
}

-- What all changes do: whether there are any, whether an identifier had a negative answer, and how many of each kind.
abbrev pub effects_of : List Change → Effects
effects_of all = record {
  some = has_some all;
  negative = list_any was_negative all;
  holes = extent_of becomes_hole all;
  unregistered = extent_of loses_registration all;
  moved = extent_of changes_servers all;
}

-- an extent with one block more, if that counts
abbrev pub extent_with : Extent → Bool → List ℕ → Extent
extent_with e counts prefix = record {
  blocks = capped (e.blocks + cond counts 1 0);
  ipv4 = capped (e.ipv4 + cond counts (ipv4_in prefix) 0);
  ipv6 = capped (e.ipv6 + cond counts (ipv6_in prefix) 0);
}

-- what changes do, with one change more
abbrev pub effects_with : Effects → Change → Effects
effects_with e c = record {
  some = true;
  negative = e.negative || was_negative c;
  holes = extent_with e.holes (becomes_hole c) c.prefix;
  unregistered = extent_with e.unregistered (loses_registration c) c.prefix;
  moved = extent_with e.moved (changes_servers c) c.prefix;
}

-- A change is counted, and never refused.
abbrev pub CountsEffect : Effects → Change → Result (Unit {0}) LineFault → Effects → Type 0
CountsEffect before change (Ok all) after = after ≡ effects_with before change
CountsEffect before change (Err why) after = ⊥
