use Rattle.std.proofs.Common.{◌≡◌, ℕ, List, None, map}
use Rattle.std.specs.List.{filter_map}
use Rattle.ddt_path.specs.laws.Member.{IsIn}
use Rattle.ddt_config.specs.Table.{outline}
use Rattle.ddt_plan.specs.declared.versions.Versions.{Versions}
use Rattle.ddt_deploy.specs.Rollout.Configurations.{config_in, refusal_in}
use Rattle.ddt_deploy.proofs.rollout.configurations.configurations_of.Given as goal

abbrev pub invariant-loop-name : goal.invariant-loop-name
invariant-loop-name l = (map outline l.configs.items ≡ filter_map (config_in l.stage l.kept) l.yielded)
    × ((e : List ℕ × Versions) → IsIn e l.yielded → refusal_in l.stage e ≡ None)
