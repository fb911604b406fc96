use Rattle.std.proofs.Common.{ℕ, ap, ◌∙◌}
use Rattle.std.specs.Prelude.{◌==◌}
use Rattle.std.specs.List.{list_any}
use Rattle.std.specs.Ordering.{nat_cmp}
use Rattle.std.specs.Cmp.Lexicographic.{slice_cmp}
use Rattle.ddt_register.specs.declared.zone.Zone.{Zone}
use Rattle.ddt_compile.specs.Lists.{list_at}
use Rattle.ddt_organisations.proofs.ToldLemmas.{number_at}
use Rattle.ddt_organisations.proofs.PairLemmas.{pairs_first, pairs_on, pairs_all}
use Rattle.ddt_organisations.proofs.seam_pairs.seams.Goals as goal

pub loop-number-init : goal.loop-number-init
loop-number-init c = pairs_first c.args.all.now c.new-pairs.result.items c.new-pairs.ensures.items

pub loop-number-preserved : goal.loop-number-preserved
loop-number-preserved c =
    let all = c.args.all.now in
    let i = c.loop-number.number in
    let o = c.index-all-number.result in
    let numbers = list_at (slice_cmp nat_cmp) c.in_ok-runners.runners in
    pairs_on all i o (number_at all i o c.loop-number-test.true c.index-all-number.is) numbers c.in_ok-runners.ensures
    c.in_ok-delegations.delegations c.in_ok-delegations.ensures c.in_ok-others.others
    (λ m. c.in_ok-others.ensures m
    ∙ ap (list_any (λ (z : Zone). list_any (λ (k : ℕ). k == m) (numbers z.group))) c.deref.ensures.value)
    c.loop-number.pairs.items c.push_pairs.new.pairs.items c.loop-number.invariant c.in_ok-push_pairs.ensures

pub returns : goal.returns
returns c = pairs_all c.args.all.now c.loop-number.number c.loop-number.pairs.items c.loop-number-test.false
    c.loop-number.invariant
