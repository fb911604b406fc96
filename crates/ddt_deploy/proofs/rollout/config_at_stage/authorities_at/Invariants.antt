use Rattle.std.proofs.Common.{◌≡◌, ◌++◌}
use Rattle.std.specs.Prelude.{not, ◌&&◌}
use Rattle.std.specs.List.{filter}
use Rattle.ddt_deploy.specs.Rollout.Between.{authorities_in_force, has_zone, continues}
use Rattle.ddt_deploy.proofs.rollout.config_at_stage.authorities_at.Given as goal

abbrev pub invariant-loop-authority : goal.invariant-loop-authority
invariant-loop-authority l =
    l.all.items ≡ filter (λ a. not (has_zone (authorities_in_force l.fn.stage l.fn.later) a) && continues l.fn.stage l.fn.kept a) l.fn.earlier ++ l.yielded
