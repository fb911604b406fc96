use Rattle.std.proofs.Common.{◌≡◌, ℕ, ◌<◌, get_or}
use Rattle.ddt_check.specs.Zones.{roots}
use Rattle.ddt_commands.proofs.commands.replay.schedule.other_roots.Given as goal

-- those so far have the root locators of the first
abbrev pub invariant-loop-place : goal.invariant-loop-place
invariant-loop-place l = (k : ℕ) → k < l.place → roots (get_or l.others k l.first) ≡ roots l.first
