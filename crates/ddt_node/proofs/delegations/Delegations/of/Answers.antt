use Rattle.std.proofs.Common.{◌≡◌, ◌++◌, ◌∷◌, [], ◌+◌, take, refl, arith, ap, sym, ◌∙◌}
use Rattle.std.proofs.lemmas.List.{take_all, take_more, map-append}
use Rattle.ddt_node.proofs.DelegationLemmas.{one_more, children_are, are_kept}
use Rattle.ddt_node.proofs.delegations.Delegations.of.Goals as goal

pub loop-child-preserved : goal.loop-child-preserved
loop-child-preserved c =
    let n = c.loop-child.child-index in
    let child = c.child-item.result in
    let taken : take (n + 1) c.args.children.now ≡ take n c.args.children.now ++ child ∷ [] =
    take_more c.args.children.now n child c.loop-child-test.true ∙ ap (λ d. take n c.args.children.now ++ d ∷ []) (sym c.child-item.is) in
    rw taken (record {
      prefixes = rw (c.in_ok-push.ensures.items, map-append, c.loop-child.invariant.prefixes) refl;
      sets = rw c.in_ok-push-2.ensures.items (one_more _ _ _ child c.keep.ensures.others c.in_ok-keep.ensures.kept _ _ c.loop-child.invariant.sets);
      few = omega (arith, c.keep.ensures.more, c.loop-child.invariant.few);
    })

pub invariant_of-result : goal.invariant_of-result
invariant_of-result c =
    let whole = take_all c.loop-child.child-index c.args.children.now c.loop-child-test.false in
    rw (c.loop-child.invariant.prefixes, whole) (are_kept _ _ _ (rw whole at c.loop-child.invariant.sets))

pub returns-clause-kept : goal.returns-clause-kept
returns-clause-kept c =
    let whole = take_all c.loop-child.child-index c.args.children.now c.loop-child-test.false in
    rw (c.loop-child.invariant.prefixes, whole) (children_are _ _ _ (rw whole at c.loop-child.invariant.sets))
