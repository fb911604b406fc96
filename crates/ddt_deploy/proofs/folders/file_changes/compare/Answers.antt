use Rattle.std.proofs.Common.{◌≡◌, List, ◌++◌, sym, subst, ◌∙◌, rules}
use Rattle.std.proofs.lemmas.List.{map-id}
use Rattle.std.proofs.lemmas.Iterator.Adapters.{YieldsList-from_vec}
use Rattle.std.proofs.lemmas.Iterator.Consumers.{YieldsList-end}
use Rattle.ddt_deploy.specs.declared.folders.step.NamedFile.{NamedFile}
use Rattle.ddt_deploy.specs.Folders.Wanted.{same_for, same_in, step_for, steps_for}
use Rattle.ddt_deploy.proofs.FoldersLemmas.ListLemmas.{end_nil, flat_more}
use Rattle.ddt_deploy.proofs.folders.file_changes.compare.Goals as goal

pub loop-file-init : goal.loop-file-init
loop-file-init g c = λ s h. (h, sym (end_nil c.args.draft.now.steps.items), sym (end_nil c.args.draft.now.same.items))

pub loop-file-preserved : goal.loop-file-preserved
loop-file-preserved g c = λ s h.
    let before = c.loop-file.invariant s h in
    let step = c.in_ok-compare_one.ensures s before.0 in (
      step.0,
      flat_more (λ (file : NamedFile). step_for file (s.files file.name)) c.args.draft.now.steps.items
          c.loop-file.draft.steps.items c.compare_one.new.draft.steps.items c.loop-file.yielded c.in-Some.file before.1
          step.1.0,
      flat_more (λ (file : NamedFile). same_for file (s.files file.name)) c.args.draft.now.same.items
          c.loop-file.draft.same.items c.compare_one.new.draft.same.items c.loop-file.yielded c.in-Some.file before.2
          step.1.1,
    )

pub returns : goal.returns
returns g c = λ s h.
    let items = c.args.files.items in
    let all = YieldsList-end (YieldsList-from_vec {s = c.into_iter-file-iterator.result} items (search rules) (search rules))
    c.loop-file.yielded c.loop-file.file-iterator c.loop-file.yielded_by c.next.result c.next.new.self c.in-None.is
    c.next.ensures.steps in
    let yielded : c.loop-file.yielded ≡ items = sym (map-id c.loop-file.yielded) ∙ all.0 in
    let at = c.loop-file.invariant s h in (
      at.0,
      (
        subst (λ (fs : List NamedFile). c.loop-file.draft.steps.items ≡ c.args.draft.now.steps.items ++ steps_for s.files fs)
            yielded at.1,
        subst (λ (fs : List NamedFile). c.loop-file.draft.same.items ≡ c.args.draft.now.same.items ++ same_in s.files fs)
            yielded at.2,
      ),
    )
