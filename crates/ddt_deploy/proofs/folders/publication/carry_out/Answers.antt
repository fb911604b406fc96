use Rattle.std.proofs.Common.{take, sym, subst, rules}
use Rattle.ddt_deploy.specs.Folders.Contents.{Contents}
use Rattle.ddt_deploy.specs.Folders.Steps.{after}
use Rattle.ddt_deploy.proofs.FoldersLemmas.StepLemmas.{after_more, stopped_at}
use Rattle.ddt_deploy.proofs.folders.publication.carry_out.Goals as goal

pub loop-step-preserved : goal.loop-step-preserved
loop-step-preserved g c = λ s h.
    let steps = c.args.steps.now in
    let i = c.loop-step.step-index in
    subst (λ (t : Contents). g.F.Folder.holds c.take_step.new.folder t)
    (sym (after_more steps i c.step-item.result (search rules) c.step-item.is s))
    (c.in-Ok.ensures (after (take i steps) s) (c.loop-step.invariant s h))

pub returns-in-Err : goal.returns-in-Err
returns-in-Err g c = λ s h.
    let steps = c.args.steps.now in
    let i = c.loop-step.step-index in
    let failed = c.in-Err.ensures (after (take i steps) s) (c.loop-step.invariant s h) in (
      failed.0,
      failed.1,
      stopped_at steps i c.step-item.result (search rules) c.step-item.is s failed.0 c.name.result c.name.ensures failed.2,
    )
