use Rattle.std.proofs.Common.{◌≡◌, ℕ, [], ◌∷◌, ◌++◌, List, map, sym, ap, subst, ◌∙◌, rules}
use Rattle.std.specs.Prelude.{not}
use Rattle.std.specs.BTreeSet.{contains}
use Rattle.std.specs.Cmp.Lexicographic.{slice_cmp}
use Rattle.std.specs.Ordering.{nat_cmp}
use Rattle.std.proofs.lemmas.Fn.{filter_same}
use Rattle.std.proofs.lemmas.List.{map-id}
use Rattle.std.proofs.lemmas.List.Sorted.{answers_always}
use Rattle.std.proofs.lemmas.Iterator.Adapters.{YieldsList-from_vec}
use Rattle.std.proofs.lemmas.Iterator.Consumers.{YieldsList-end}
use Rattle.ddt_config.specs.declared.config.ServerConfig.{ServerConfig}
use Rattle.ddt_config.specs.Table.{outline}
use Rattle.ddt_deploy.specs.declared.folders.step.NamedFile.{NamedFile}
use Rattle.ddt_deploy.specs.Folders.Wanted.{AreConfigFiles}
use Rattle.ddt_deploy.proofs.FoldersLemmas.ListLemmas.{files_last}
use Rattle.ddt_deploy.proofs.FoldersLemmas.OurLemmas.{our_configs}
use Rattle.ddt_deploy.proofs.folders.config_files.wanted_files.Goals as goal

pub loop-config-preserved : goal.loop-config-preserved
loop-config-preserved c =
    let before = c.loop-config.invariant in
    let file = c.in_ok-config_file.field-0 in (
      before.0 ++ file ∷ [],
      c.in_ok-push-2.ensures.items ∙ ap (λ (files : List NamedFile). files ++ file ∷ []) before.1,
      files_last c.loop-config.yielded before.0 c.in-Some.config file before.2 c.in_ok-config_file.ensures,
    )

pub returns : goal.returns
returns c =
    let items = c.sort_unstable_by_key.new.self.items in
    let ours = λ (name : List ℕ). contains (slice_cmp nat_cmp) c.args.foreign.now name in
    let keeps = λ (config : ServerConfig). not (ours config.name) in
    let kept = filter_same _ keeps _ (λ e b f k. search rules) _ _ c.retain.ensures.filtered in
    let all = YieldsList-end (YieldsList-from_vec {s = c.into_iter-config-iterator.result} items (search rules) (search rules))
    c.loop-config.yielded c.loop-config.config-iterator c.loop-config.yielded_by c.next.result c.next.new.self c.in-None.is
    c.next.ensures.steps in
    let yielded : c.loop-config.yielded ≡ items = sym (map-id c.loop-config.yielded) ∙ all.0 in
    let at = c.loop-config.invariant in (
      at.0,
      record {
        compiled = c.retain.new.self.items;
        each = ap (map outline) kept ∙ our_configs ours c.args.accepted.now c.into_vec-configs.result.items
            (search (rules, c.in_ok-compile.ensures.each, c.into_vec-configs.ensures));
        configs = items;
        moved = c.sort_unstable_by_key.ensures.permutation;
        in_order = c.sort_unstable_by_key.ensures.sorted (λ (config : _). config.name)
            (answers_always _ _ _ (λ f a r k h. search rules));
        texts = subst (λ (cs : List ServerConfig). AreConfigFiles cs at.0) yielded at.2;
      },
      at.1,
    )
