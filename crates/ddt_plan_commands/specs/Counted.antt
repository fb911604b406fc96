-- The counts of all blocks, and of all changes.
use Rattle.std.specs.Prelude.{ℕ, nat_lt, Bool, ◌||◌, List, [], ◌∷◌}
use Rattle.ddt_plan.specs.declared.block_list.Block.{Block}
use Rattle.ddt_plan.specs.declared.change_list.Change.{Change}
use Rattle.ddt_plan.specs.declared.counts.OutcomeCounts.{OutcomeCounts}
use Rattle.ddt_plan.specs.declared.counts.ChangeCounts.{ChangeCounts}
use Rattle.ddt_plan.specs.Counts.{counted, changes_counted}

-- none of any kind
abbrev pub no_outcomes : OutcomeCounts
no_outcomes = record { holes = 0; registered = 0; not_registered = 0 }

-- The counts at the start of `diff --count`: 0 of each kind, before and after.
abbrev pub no_changes : ChangeCounts
no_changes = record { before = no_outcomes; after = no_outcomes }

-- the counts with those of more blocks, or of more changes
abbrev pub with_blocks : OutcomeCounts → List Block → OutcomeCounts
with_blocks n [] = n
with_blocks n (b ∷ bs) = with_blocks (counted n b.outcome) bs

-- The counts with those of more changes, each of which counts by its outcome before and by its outcome after.
abbrev pub with_changes : ChangeCounts → List Change → ChangeCounts
with_changes n [] = n
with_changes n (c ∷ cs) = with_changes (changes_counted n c) cs

-- a block was counted
abbrev pub has_counted : OutcomeCounts → Bool
has_counted n = nat_lt 0 n.holes || (nat_lt 0 n.registered || nat_lt 0 n.not_registered)
