use Rattle.std.proofs.Common.{rules, ap, ◌∙◌}
use Rattle.std.specs.List.{filter}
use Rattle.std.proofs.lemmas.Fn.{filter_same}
use Rattle.ddt_deploy.specs.Rollout.Between.{is_in_force}
use Rattle.ddt_deploy.proofs.rollout.config_at_stage.authorities_in_force.Goals as goal

pub returns : goal.returns
returns c =
    filter_same _ (is_in_force c.args.stage) _ (λ e b f k. search rules) _ _ c.retain.ensures.filtered
    ∙ ap (filter (is_in_force c.args.stage)) c.into_vec-taken.ensures
