-- What the commands write of a block, of a change and of counts, in the form that is asked for.
use Rattle.std.specs.Prelude.{ℕ, Bool, true, false, ◌&&◌, ◌||◌, not, if◌then◌else◌, List, [], ◌∷◌, codes}
use Rattle.serde_json.specs.Written.{compact_text}
use Rattle.ddt_path.specs.declared.record.Outcome.{Outcome}
use Rattle.ddt_path.specs.declared.record.Outcome.TheVariants.{Registered, NotRegistered, Hole}
use Rattle.ddt_lines.specs.Lines.{ended}
use Rattle.ddt_plan.specs.declared.block_list.Block.{Block}
use Rattle.ddt_plan.specs.declared.change_list.Change.{Change}
use Rattle.ddt_plan.specs.declared.groups.GroupChange.{GroupChange}
use Rattle.ddt_plan.specs.declared.counts.OutcomeCounts.{OutcomeCounts}
use Rattle.ddt_plan.specs.declared.counts.ChangeCounts.{ChangeCounts}
use Rattle.ddt_plan_commands.specs.declared.arguments.Form.{Form}
use Rattle.ddt_plan_commands.specs.declared.arguments.Form.TheVariants.{Text, Json}
use Rattle.ddt_plan_commands.specs.Lines.{block_text, change_text, counts_text, change_counts_text, group_text}
use Rattle.ddt_plan_commands.specs.Lines.{negative_cache_text, server_cache_text}
use Rattle.ddt_plan_commands.specs.Objects.{block_data, change_data, counts_data, change_counts_data, group_data, cache_data}

-- The outcome is a delegation hole, which `blocks --no-holes` leaves out.
abbrev pub is_hole : Outcome → Bool
is_hole (Registered p s) = false
is_hole (NotRegistered p s) = false
is_hole (Hole p) = true

-- The line of a block: its prefix and its outcome, as fields that a tab divides or as a JSON object.
abbrev pub written_block : Form → Block → List ℕ
written_block Text b = ended (block_text b)
written_block Json b = ended (compact_text (block_data b))

-- a hole is left out where holes aren't asked for
abbrev pub listed_block : Form → Bool → Block → List ℕ
listed_block form with_holes b = if not with_holes && is_hole b.outcome then [] else written_block form b

-- The line of a change: the prefix, the outcome before and the outcome after.
abbrev pub written_change : Form → Change → List ℕ
written_change Text c = ended (change_text c)
written_change Json c = ended (compact_text (change_data c))

-- How many blocks there are of each kind: as text a line for each, as JSON one line for all.
abbrev pub written_counts : Form → OutcomeCounts → List ℕ
written_counts Text n = counts_text n
written_counts Json n = ended (compact_text (counts_data n))

-- How many changed blocks there were and are of each kind, and how many groups' configurations change: as text a line
-- for each number or pair, as JSON one line for all.
abbrev pub written_change_counts : Form → ChangeCounts → ℕ → List ℕ
written_change_counts Text n groups = change_counts_text n groups
written_change_counts Json n groups = ended (compact_text (change_counts_data n groups))

-- The line of a group whose configuration changes.
abbrev pub written_group : Form → GroupChange → List ℕ
written_group Text c = ended (group_text c)
written_group Json c = ended (compact_text (group_data c))

-- what resolvers may hold of the old answers, and for how long
abbrev pub negative_cache : Form → List ℕ
negative_cache Text = ended negative_cache_text
negative_cache Json = ended (compact_text (cache_data (codes "negative answers") 902))

-- The line that says for how long resolvers may use old servers: a day and two seconds, in JSON 86,402 seconds.
abbrev pub server_cache : Form → List ℕ
server_cache Text = ended server_cache_text
server_cache Json = ended (compact_text (cache_data (codes "servers") 86402))

-- an empty line between the changes and what follows
abbrev pub parting : Form → List ℕ
parting Text = codes "\n"
parting Json = []

-- a hole, or a site that isn't registered
abbrev pub is_negative : Outcome → Bool
is_negative (Registered p s) = false
is_negative (NotRegistered p s) = true
is_negative (Hole p) = true

-- The identifiers were in a hole or in a site that wasn't registered, so a resolver may still hold a negative answer
-- for them.
abbrev pub was_negative : Change → Bool
was_negative c = is_negative c.before

-- At least one is listed. `differs` asks this of the changes and of the groups.
abbrev pub has_some : {A : Type 0} → List A → Bool
has_some [] = false
has_some (x ∷ xs) = true

-- something differs of the blocks, or of the configuration of a group
abbrev pub differs : List Change → List GroupChange → Bool
differs all groups = has_some all || has_some groups
