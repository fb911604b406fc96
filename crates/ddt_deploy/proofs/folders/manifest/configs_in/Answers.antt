use Rattle.std.proofs.Common.{ℕ, eqb, rules, tests}
use Rattle.std.specs.Ordering.{nat_cmp}
use Rattle.std.specs.Cmp.Lexicographic.{slice_cmp}
use Rattle.std.specs.BTreeMap.{get}
use Rattle.std.proofs.lemmas.Iterator.Consumers.{YieldsList-at, YieldsList-end}
use Rattle.std.proofs.lemmas.Iterator.Splits.{YieldsList-from_slice_split}
use Rattle.ddt_deploy.proofs.FoldersLemmas.ManifestLemmas.{listed, one_line_more}
use Rattle.ddt_deploy.proofs.folders.manifest.configs_in.Goals as goal

pub loop-line-preserved : goal.loop-line-preserved
loop-line-preserved c =
    one_line_more (get (slice_cmp nat_cmp) c.loop-line.listed) (get (slice_cmp nat_cmp) c.add_config.new.listed)
    c.loop-line.yielded c.in-Some.line c.loop-line.invariant c.in_ok-add_config.ensures

pub returns : goal.returns
returns c =
    let all = YieldsList-end
    (YieldsList-at c.into_iter-line-iterator.ensures.into_iter_gives
    (YieldsList-from_slice_split _ (λ (b : ℕ). eqb b 10) c.args.manifest.now c.split-line-items.ensures.rest
    c.split-line-items.ensures.done c.split-line-items.ensures.closure (λ x b q k. search (rules, tests))))
    c.loop-line.yielded _ c.loop-line.yielded_by _ _ c.in-None.is c.next.ensures.steps in
    listed c.loop-line.listed c.args.manifest.now c.loop-line.yielded all.0 c.loop-line.invariant
