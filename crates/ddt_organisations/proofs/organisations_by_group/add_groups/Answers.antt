use Rattle.std.proofs.Common.{refl, ◌∙◌, rules}
use Rattle.std.specs.Ordering.{nat_cmp}
use Rattle.std.specs.Cmp.Lexicographic.{slice_cmp}
use Rattle.std.specs.BTreeSet.{contains}
use Rattle.std.specs.Map.Iter.{deref}
use Rattle.std.proofs.lemmas.Map.Iter.{rest_more, rest_all}
use Rattle.ddt_compile.specs.Lists.{list_at}
use Rattle.ddt_organisations.specs.Meets.{seen}
use Rattle.ddt_organisations.proofs.RunnerLemmas.{added_first, added_more, added_all}
use Rattle.ddt_organisations.proofs.organisations_by_group.add_groups.Goals as goal

pub loop-name-init : goal.loop-name-init
loop-name-init c = added_first c.args.organisation.now.groups c.args.number
    (list_at (slice_cmp nat_cmp) c.args.runners.now) c.into_iter-name-iterator.result
    (c.into_iter-name-iterator.ensures.into_iter_gives ∙ c.iter-name-items.ensures.rest)

pub loop-name-preserved : goal.loop-name-preserved
loop-name-preserved c =
    let old = list_at (slice_cmp nat_cmp) c.loop-name.runners in
    let new = list_at (slice_cmp nat_cmp) c.add.new.runners in
    added_more (contains (slice_cmp nat_cmp) c.args.organisation.now.groups) c.args.number
    (list_at (slice_cmp nat_cmp) c.args.runners.now) c.loop-name.name-iterator c.next.new.self old new
    c.loop-name.invariant c.in-Some.name.now
    (rest_more deref c.loop-name.name-iterator c.next.new.self c.next.result c.in-Some.name c.in-Some.is c.next.ensures.steps)
    (search rules) c.in_ok-add.ensures.elsewhere

pub returns : goal.returns
returns c =
    let numbers = list_at (slice_cmp nat_cmp) c.loop-name.runners in
    added_all (contains (slice_cmp nat_cmp) c.args.organisation.now.groups) c.args.number
    (list_at (slice_cmp nat_cmp) c.args.runners.now) c.loop-name.name-iterator c.loop-name.name-iterator numbers numbers
    c.loop-name.invariant (seen c.args.organisation.now) refl
    (rest_all deref c.loop-name.name-iterator c.next.new.self c.next.result c.in-None.is c.next.ensures.steps)
