use Rattle.std.proofs.Common.{List, ◌++◌, ◌∷◌, [], sym, subst, ◌∙◌, rules}
use Rattle.std.proofs.lemmas.List.{map-id}
use Rattle.std.proofs.lemmas.Iterator.Adapters.{YieldsList-from_vec}
use Rattle.std.proofs.lemmas.Iterator.Consumers.{YieldsList-end}
use Rattle.ddt_config.specs.declared.config.ServerConfig.{ServerConfig}
use Rattle.ddt_deploy.specs.declared.rollout.files.ConfigFile.{ConfigFile}
use Rattle.ddt_deploy.specs.Rollout.Files.{AreFilesOf}
use Rattle.ddt_deploy.proofs.RolloutLemmas.FileLemmas.{files_last}
use Rattle.ddt_deploy.proofs.rollout.files.files_of.Goals as goal

pub loop-config-preserved : goal.loop-config-preserved
loop-config-preserved c =
    subst (λ (files : List ConfigFile). AreFilesOf (c.loop-config.yielded ++ c.in-Some.config ∷ []) files)
    (sym c.in_ok-push.ensures.items)
    (files_last c.loop-config.yielded c.loop-config.files.items c.in-Some.config c.in_ok-file_of.field-0
    c.loop-config.invariant c.in_ok-file_of.ensures)

pub returns : goal.returns
returns c =
    let all = YieldsList-end (YieldsList-from_vec {s = c.into_iter-config-iterator.result} c.args.configs.items (search rules) (search rules))
    c.loop-config.yielded c.loop-config.config-iterator c.loop-config.yielded_by c.next.result c.next.new.self c.in-None.is
    c.next.ensures.steps in
    subst (λ (cs : List ServerConfig). AreFilesOf cs c.loop-config.files.items)
    (sym (map-id c.loop-config.yielded) ∙ all.0) c.loop-config.invariant
