use Rattle.std.proofs.Common.{List, subst}
use Rattle.std.specs.BTreeSet.{contains}
use Rattle.std.specs.Cmp.Lexicographic.{slice_cmp}
use Rattle.std.specs.Ordering.{nat_cmp}
use Rattle.ddt_deploy.specs.declared.folders.step.Step.{Step}
use Rattle.ddt_deploy.specs.Folders.Steps.{after}
use Rattle.ddt_deploy.proofs.FoldersLemmas.PublishLemmas.{plans_publish}
use Rattle.ddt_deploy.proofs.folders.publication.publish.Goals as goal

pub returns-clause-published : goal.returns-clause-published
returns-clause-published g c = λ s h accepted.
    let plan = c.in_ok-plan.plan in
    let made = c.in_ok-plan.ensures s h in
    let done = c.in_ok-carry_out.ensures s made.0 in (
      after plan.steps s,
      subst (λ (steps : List Step). g.F.Folder.holds c.carry_out.new.folder (after steps s)) c.as_slice.ensures done,
      plans_publish (λ name. contains (slice_cmp nat_cmp) c.args.foreign.now name) c.args.accepted.now c.args.register.now c.args.removes s plan accepted made.1,
    )
