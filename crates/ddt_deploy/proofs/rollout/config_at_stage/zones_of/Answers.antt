use Rattle.std.proofs.Common.{ap, ◌∙◌}
use Rattle.std.specs.List.{list_any}
use Rattle.std.specs.Ordering.{nat_cmp}
use Rattle.std.specs.Cmp.Lexicographic.{slice_cmp}
use Rattle.std.specs.BTreeSet.{contains}
use Rattle.std.proofs.lemmas.List.{take_all}
use Rattle.ddt_path.specs.Covers.{is_same_path}
use Rattle.ddt_config.specs.declared.authority.Authority.{Authority}
use Rattle.ddt_deploy.proofs.RolloutLemmas.ZoneLemmas.{inserted_now, zones_more}
use Rattle.ddt_deploy.proofs.rollout.config_at_stage.zones_of.Goals as goal

pub loop-authority-preserved : goal.loop-authority-preserved
loop-authority-preserved c = λ p.
    let a = c.authority-item.result in
    c.in_ok-insert.ensures.updates.0 p
    ∙ inserted_now p a.prefix (contains (slice_cmp nat_cmp) c.loop-authority.zones p)
    ∙ zones_more p c.args.authorities.now c.loop-authority.authority-index a c.loop-authority-test.true
    c.authority-item.is _ (c.loop-authority.invariant p)

pub returns : goal.returns
returns c = λ p.
    c.loop-authority.invariant p
    ∙ ap (list_any (λ (b : Authority). is_same_path p b.prefix))
    (take_all c.loop-authority.authority-index c.args.authorities.now c.loop-authority-test.false)
