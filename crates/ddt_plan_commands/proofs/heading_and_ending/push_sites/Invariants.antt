use Rattle.std.proofs.Common.{◌≡◌, ◌++◌, take}
use Rattle.std.specs.List.{flat_map}
use Rattle.ddt_plan_commands.specs.Ending.{written_site}
use Rattle.ddt_plan_commands.proofs.heading_and_ending.push_sites.Given as goal

abbrev pub invariant-loop-site : goal.invariant-loop-site
invariant-loop-site l = l.text.items ≡ l.fn.text.items ++ flat_map (written_site l.form) (take l.site-index l.sites)
