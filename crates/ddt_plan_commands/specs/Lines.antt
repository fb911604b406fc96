-- A block, a change and counts as lines of fields that a tab divides.
use Rattle.std.specs.Prelude.{ℕ, List, ◌++◌, codes, decimal}
use Rattle.ddt_path.specs.declared.record.Outcome.{Outcome}
use Rattle.ddt_text.specs.Written.{written_prefix}
use Rattle.ddt_lines.specs.Lines.{ended, outcome_text}
use Rattle.ddt_plan.specs.declared.block_list.Block.{Block}
use Rattle.ddt_plan.specs.declared.change_list.Change.{Change}
use Rattle.ddt_plan.specs.declared.groups.GroupChange.{GroupChange}
use Rattle.ddt_plan.specs.declared.groups.GroupChangeKind.{GroupChangeKind}
use Rattle.ddt_plan.specs.declared.groups.GroupChangeKind.TheVariants.{Added, Removed, Changed}
use Rattle.ddt_plan.specs.declared.counts.OutcomeCounts.{OutcomeCounts}
use Rattle.ddt_plan.specs.declared.counts.ChangeCounts.{ChangeCounts}

-- an outcome behind a tab
abbrev pub outcome_field : Outcome → List ℕ
outcome_field outcome = codes "\t" ++ outcome_text outcome

-- the block, and what it is assigned
abbrev pub block_text : Block → List ℕ
block_text b = written_prefix b.prefix ++ outcome_field b.outcome

-- the block, what it was assigned, and what it is assigned now
abbrev pub change_text : Change → List ℕ
change_text c = written_prefix c.prefix ++ (outcome_field c.before ++ outcome_field c.after)

-- How a group's configuration changes: only the later register has the group, only the earlier one has it, or both have
-- it with configurations that aren't alike.
abbrev pub kind_word : GroupChangeKind → List ℕ
kind_word Added = codes "added"
kind_word Removed = codes "removed"
kind_word Changed = codes "changed"

-- a group, and how its configuration changes
abbrev pub group_text : GroupChange → List ℕ
group_text c = codes "group\t" ++ c.name ++ codes "\t" ++ kind_word c.kind

-- for how long caches may go on to answer the old way
abbrev pub negative_cache_text : List ℕ
negative_cache_text = codes "caches\tnegative answers\t15 minutes 2 seconds"

-- For how long resolvers may go on to use old referrals, and so old servers: the day that a referral is kept, and two
-- seconds for a reply that was on its way.
abbrev pub server_cache_text : List ℕ
server_cache_text = codes "caches\tservers\t1 day 2 seconds"

-- a number behind a tab
abbrev pub number_field : ℕ → List ℕ
number_field n = codes "\t" ++ decimal n

-- how many there are of a kind
abbrev pub count_text : List ℕ → ℕ → List ℕ
count_text kind n = kind ++ number_field n

-- how many there were of a kind, and how many there are now
abbrev pub change_count_text : List ℕ → ℕ → ℕ → List ℕ
change_count_text kind before after = kind ++ number_field before ++ number_field after

-- the same of each kind, a line each
abbrev pub counts_text : OutcomeCounts → List ℕ
counts_text n =
    ended (count_text (codes "registered") n.registered)
    ++ ended (count_text (codes "not-registered") n.not_registered)
    ++ ended (count_text (codes "hole") n.holes)

-- and how many groups' configurations change
abbrev pub change_counts_text : ChangeCounts → ℕ → List ℕ
change_counts_text n groups =
    ended (change_count_text (codes "registered") n.before.registered n.after.registered)
    ++ ended (change_count_text (codes "not-registered") n.before.not_registered n.after.not_registered)
    ++ ended (change_count_text (codes "hole") n.before.holes n.after.holes)
    ++ ended (count_text (codes "group") groups)
