-- How many outcomes there are of each kind.
use Rattle.std.specs.Prelude.{ℕ, ◌≡◌, ◌⊎◌, ◌+◌, Result, Ok, Err}
use Rattle.ddt_path.specs.declared.record.Outcome.{Outcome}
use Rattle.ddt_path.specs.declared.record.Outcome.TheVariants.{Registered, NotRegistered, Hole}
use Rattle.ddt_plan.specs.declared.block_list.Block.{Block}
use Rattle.ddt_plan.specs.declared.change_list.Change.{Change}
use Rattle.ddt_plan.specs.declared.counts.CountFull.{CountFull}
use Rattle.ddt_plan.specs.declared.counts.OutcomeCounts.{OutcomeCounts}
use Rattle.ddt_plan.specs.declared.counts.ChangeCounts.{ChangeCounts}

-- one more of its kind
abbrev pub counted : OutcomeCounts → Outcome → OutcomeCounts
counted n (Registered p s) =
    record { holes = n.holes; registered = n.registered + 1; not_registered = n.not_registered }
counted n (NotRegistered p s) =
    record { holes = n.holes; registered = n.registered; not_registered = n.not_registered + 1 }
counted n (Hole p) = record { holes = n.holes + 1; registered = n.registered; not_registered = n.not_registered }

-- The counts with one more change: its earlier outcome counts as before, and its later outcome as after.
abbrev pub changes_counted : ChangeCounts → Change → ChangeCounts
changes_counted n c = record { before = counted n.before c.before; after = counted n.after c.after }

-- the count of an outcome's kind
abbrev pub count_of : OutcomeCounts → Outcome → ℕ
count_of n (Registered p s) = n.registered
count_of n (NotRegistered p s) = n.not_registered
count_of n (Hole p) = n.holes

-- a count that can't be one more
abbrev pub IsFull : ℕ → Type 0
IsFull n = n ≡ 18446744073709551615

-- A block is counted by its outcome. It is refused where the count of that kind is full, and then all counts stay.
abbrev pub CountsBlock : OutcomeCounts → Block → Result (Unit {0}) CountFull → OutcomeCounts → Type 0
CountsBlock before block (Ok all) after = after ≡ counted before block.outcome
CountsBlock before block (Err full) after = (after ≡ before) × IsFull (count_of before block.outcome)

-- the same of a change, by both outcomes
abbrev pub CountsChange : ChangeCounts → Change → Result (Unit {0}) CountFull → ChangeCounts → Type 0
CountsChange before change (Ok all) after = after ≡ changes_counted before change
CountsChange before change (Err full) after =
    (after ≡ before)
    × (IsFull (count_of before.before change.before) ⊎ IsFull (count_of before.after change.after))
