use Rattle.std.proofs.Common.{refl}
use Rattle.std.specs.Prelude.{[]}
use Rattle.ddt_deploy.proofs.RolloutLemmas.ShapeLemmas.{shaped_at, shape_parts}
use Rattle.ddt_deploy.proofs.rollout.config_at_stage.removed_group_config.Goals as goal

pub invariant_of-result : goal.invariant_of-result
invariant_of-result c =
    let s = c.args.earlier in
    let p = shape_parts s.role s.locators s.authorities s.shaped in
    record {
      shaped = rw (c.in_ok-authorities.ensures, c.of-none.ensures, c.new.ensures.items)
          (shaped_at s.role c.args.stage c.args.kept.now s.authorities [] s.locators p.0 p.1 p.2 refl refl);
    }
