-- A block, a change and counts as JSON objects, whose members stand in the order of their names.
use Rattle.std.specs.Prelude.{ℕ, List, [], codes, map}
use Rattle.serde_json.specs.Data.{Data, Items, Members, number, unsigned, string, array, object, member, no_members}
use Rattle.serde_json.specs.View.{items_of}
use Rattle.ddt_path.specs.declared.locator.Locator.{Locator}
use Rattle.ddt_path.specs.declared.record.Outcome.{Outcome}
use Rattle.ddt_path.specs.declared.record.Outcome.TheVariants.{Registered, NotRegistered, Hole}
use Rattle.ddt_text.specs.Written.{written_locator, written_prefix}
use Rattle.ddt_plan.specs.declared.block_list.Block.{Block}
use Rattle.ddt_plan.specs.declared.change_list.Change.{Change}
use Rattle.ddt_plan.specs.declared.groups.GroupChange.{GroupChange}
use Rattle.ddt_plan.specs.declared.counts.OutcomeCounts.{OutcomeCounts}
use Rattle.ddt_plan.specs.declared.counts.ChangeCounts.{ChangeCounts}
use Rattle.ddt_plan_commands.specs.Lines.{kind_word}

-- A prefix as a JSON string, spelled as in the lines of text: `[0]10.0.0.0/8`, or `*` for all identifiers.
abbrev pub prefix_data : List ℕ → Data
prefix_data prefix = string (written_prefix prefix)

-- A server as a JSON string: its locator, which is an IPv4 or IPv6 address without a port.
abbrev pub server_data : Locator → Data
server_data l = string (written_locator l)

-- Servers as the items of a JSON array, in the order of the group's locators.
abbrev pub server_items : List Locator → Items
server_items servers = items_of (map server_data servers)

-- The object of an outcome, with the members `kind`, `prefix` and `servers`.
abbrev pub kind_data : List ℕ → List ℕ → List Locator → Data
kind_data kind prefix servers =
    object (member (codes "kind") (string kind) (member (codes "prefix") (prefix_data prefix)
    (member (codes "servers") (array (server_items servers)) no_members)))

-- the kind, the prefix and the servers of an outcome; a hole has no servers
abbrev pub outcome_data : Outcome → Data
outcome_data (Registered prefix servers) = kind_data (codes "registered") prefix servers
outcome_data (NotRegistered prefix servers) = kind_data (codes "not-registered") prefix servers
outcome_data (Hole prefix) = kind_data (codes "hole") prefix []

-- A block: the prefix that covers its identifiers, and the outcome that each of them is assigned.
abbrev pub block_data : Block → Data
block_data b =
    object (member (codes "block") (prefix_data b.prefix) (member (codes "outcome") (outcome_data b.outcome) no_members))

-- A change: the prefix that covers its identifiers, and the outcome of each of them before and after.
abbrev pub change_data : Change → Data
change_data c =
    object (member (codes "after") (outcome_data c.after) (member (codes "before") (outcome_data c.before)
    (member (codes "block") (prefix_data c.prefix) no_members)))

-- How many outcomes there are of each kind; a kind without any is written with 0.
abbrev pub counts_data : OutcomeCounts → Data
counts_data n =
    object (member (codes "hole") (number (unsigned n.holes)) (member (codes "not-registered")
    (number (unsigned n.not_registered)) (member (codes "registered") (number (unsigned n.registered)) no_members)))

-- How many outcomes of each kind there were at the changed blocks, how many there are now, and how many groups'
-- configurations change.
abbrev pub change_counts_data : ChangeCounts → ℕ → Data
change_counts_data n groups =
    object (member (codes "after") (counts_data n.after) (member (codes "before") (counts_data n.before)
    (member (codes "groups") (number (unsigned groups)) no_members)))

-- A group's name, and `added`, `removed` or `changed` for its configuration.
abbrev pub group_data : GroupChange → Data
group_data c =
    object (member (codes "configuration") (string (kind_word c.kind)) (member (codes "group") (string c.name) no_members))

-- what caches may hold, and for how many seconds
abbrev pub cache_data : List ℕ → ℕ → Data
cache_data held seconds =
    object (member (codes "caches") (string held) (member (codes "seconds") (number (unsigned seconds)) no_members))
