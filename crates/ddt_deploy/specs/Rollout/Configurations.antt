-- The configurations of all groups at a stage.
use Rattle.std.specs.Prelude.{◌≡◌, ◌↔◌, ℕ, List, map, Option, Some, Contains}
use Rattle.std.specs.List.Sorted.{IsStrictlySortedBy}
use Rattle.std.specs.Ordering.{nat_cmp}
use Rattle.std.specs.Cmp.Lexicographic.{slice_cmp}
use Rattle.ddt_register.specs.declared.register.Register.{Register}
use Rattle.ddt_config.specs.Table.{Outline}
use Rattle.ddt_compile.specs.GroupConfig.{config_named}
use Rattle.ddt_plan.specs.declared.versions.Versions.{Versions}
use Rattle.ddt_plan.specs.Versions.{earlier, later}
use Rattle.ddt_deploy.specs.declared.rollout.fault.RolloutFault.{RolloutFault}
use Rattle.ddt_deploy.specs.declared.rollout.stage.Stage.{Stage}
use Rattle.ddt_deploy.specs.Rollout.Between.{Waits, config_at, refusal_at}
use Rattle.ddt_deploy.specs.Rollout.Waits.{AreWaits}

-- The configurations of a stage: that of each group, by those that both registers give it, and no other. They are in
-- the order of the groups' names, none twice.
pub record AreConfigurationsAt (before after : Register) (stage : Stage) (configs : List Outline) : Type 0 where
  pub kept : Waits
  pub waits : AreWaits before after kept
  pub exact : (c : Outline) → Contains configs c
      ↔ (config_at stage kept (config_named before c.name) (config_named after c.name) ≡ Some c)
  pub in_order : IsStrictlySortedBy (slice_cmp nat_cmp) (map (λ c. c.name) configs)

-- what stands against the group of a name at a stage
abbrev pub refusal_of : Register → Register → Stage → List ℕ → Option RolloutFault
refusal_of before after stage name = refusal_at stage (config_named before name) (config_named after name)

-- the same by the configurations of a group, as they are kept by its name
abbrev pub config_in : Stage → Waits → List ℕ × Versions → Option Outline
config_in stage kept e = config_at stage kept (earlier (Some e.1)) (later (Some e.1))

-- what stands against it
abbrev pub refusal_in : Stage → List ℕ × Versions → Option RolloutFault
refusal_in stage e = refusal_at stage (earlier (Some e.1)) (later (Some e.1))
