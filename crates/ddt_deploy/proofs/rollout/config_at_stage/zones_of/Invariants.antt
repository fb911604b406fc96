use Rattle.ddt_deploy.specs.Rollout.Between.{HasZones}
use Rattle.std.proofs.Common.{take}
use Rattle.ddt_deploy.proofs.rollout.config_at_stage.zones_of.Given as goal

abbrev pub invariant-loop-authority : goal.invariant-loop-authority
invariant-loop-authority l = HasZones (take l.authority-index l.authorities) l.zones
