use Rattle.std.proofs.Common.{sym, subst}
use Rattle.std.proofs.lemmas.Result.{IfOk-weaker, IfErr-weaker}
use Rattle.ddt_deploy.specs.Rollout.Configurations.{AreConfigurationsAt}
use Rattle.ddt_deploy.proofs.RolloutLemmas.ConfigurationLemmas.{configurations_are, none_refused, refused_by}
use Rattle.ddt_deploy.proofs.rollout.configurations.configurations_at.Goals as goal

pub returns-clause-found : goal.returns-clause-found
returns-clause-found c =
    let r = c.args.before.now in
    let s = c.args.after.now in
    let m = c.in_ok-versions.versions in
    IfOk-weaker c.configurations_of.result _ _
    (λ configs made. subst (AreConfigurationsAt r s c.args.stage) (sym made.0)
    (configurations_are r s c.args.stage c.in_ok-kept.kept m made.1 c.in_ok-versions.ensures c.in_ok-kept.ensures))
    c.configurations_of.ensures.made

pub returns-clause-good : goal.returns-clause-good
returns-clause-good c =
    let m = c.in_ok-versions.versions in
    IfOk-weaker c.configurations_of.result _ _
    (λ configs good. none_refused c.args.before.now c.args.after.now c.args.stage c.in_ok-kept.kept m good.0
    c.in_ok-versions.ensures good.1)
    c.configurations_of.ensures.good

pub returns-clause-refused : goal.returns-clause-refused
returns-clause-refused c =
    let m = c.in_ok-versions.versions in
    IfErr-weaker c.configurations_of.result _ _
    (λ fault refused known. let p = refused known in
    refused_by c.args.before.now c.args.after.now c.args.stage c.in_ok-kept.kept m p.0 c.in_ok-versions.ensures fault
    p.1.0 p.1.1 p.1.2)
    c.configurations_of.ensures.refused
