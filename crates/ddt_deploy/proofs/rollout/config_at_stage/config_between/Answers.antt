use Rattle.std.proofs.Common.{◌≡◌, sym, ap, ◌∙◌, true, subst}
use Rattle.std.specs.List.{list_all}
use Rattle.ddt_path.specs.declared.record.Role.{Role}
use Rattle.ddt_config.specs.Shaped.{is_authority_of}
use Rattle.ddt_deploy.specs.Rollout.Between.{are_group_locators}
use Rattle.ddt_deploy.proofs.RolloutLemmas.ShapeLemmas.{shaped_at, shape_parts, one_role}
use Rattle.ddt_deploy.proofs.rollout.config_at_stage.config_between.Goals as goal

pub invariant_of-result : goal.invariant_of-result
invariant_of-result c =
    let s = c.args.earlier in
    let t = c.args.later in
    let p = shape_parts s.role s.locators s.authorities s.shaped in
    let q = shape_parts t.role t.locators t.authorities t.shaped in
    let same = one_role s.role t.role (sym c.is_same_role.ensures ∙ c.if-not-is_same_role.false) in
    let fit : list_all (is_authority_of s.role) t.authorities ≡ true =
    subst (λ (r : Role). list_all (is_authority_of r) t.authorities ≡ true) (sym same) q.2 in
    let both = rw c.in-Some.is at c.in_ok-both.ensures in
    let good : are_group_locators c.in-Some.locators ≡ true = ap are_group_locators both.1 ∙ both.0 in
    record {
      shaped = rw c.in_ok-authorities.ensures
          (shaped_at s.role c.args.stage c.args.kept.now s.authorities t.authorities c.in-Some.locators good p.1 p.2 q.1 fit);
    }
