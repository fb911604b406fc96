use Rattle.std.proofs.Common.{rules, ap, ◌∙◌, Bool}
use Rattle.std.specs.Prelude.{not, ◌&&◌}
use Rattle.std.specs.List.{filter}
use Rattle.std.specs.Ordering.{nat_cmp}
use Rattle.std.specs.Cmp.Lexicographic.{slice_cmp}
use Rattle.std.specs.BTreeSet.{contains}
use Rattle.std.proofs.lemmas.Fn.{filter_same}
use Rattle.ddt_config.specs.declared.authority.Authority.{Authority}
use Rattle.ddt_deploy.specs.Rollout.Between.{continues}
use Rattle.ddt_deploy.proofs.rollout.config_at_stage.left.Goals as goal

pub returns : goal.returns
returns c =
    let keeps : Authority → Bool =
    λ a. not (contains (slice_cmp nat_cmp) c.args.zones.now a.prefix) && continues c.args.stage c.args.kept.now a in
    filter_same _ keeps _ (λ e b f k. search rules) _ _ c.retain.ensures.filtered ∙ ap (filter keeps) c.into_vec-left.ensures
