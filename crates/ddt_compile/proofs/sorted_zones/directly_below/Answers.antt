use Rattle.std.proofs.Common.{◌≡◌, true, sym, subst, ◌∙◌}
use Rattle.std.proofs.lemmas.List.{get_or_default}
use Rattle.ddt_path.specs.Covers.{covers}
use Rattle.ddt_register.specs.declared.zone.Zone.{Zone}
use Rattle.ddt_compile.proofs.SortedLemmas.{walk_starts, walk_goes, walk_ends}
use Rattle.ddt_compile.proofs.sorted_zones.directly_below.Goals as goal

pub loop-at-init : goal.loop-at-init
loop-at-init c = λ r are.
    walk_starts r c.args.zone.now c.args.sorted.now are c.count_up_to-at.result c.count_up_to-at.ensures.point _ c.new-found.ensures.items

pub returns-then-not-covers : goal.returns-then-not-covers
returns-then-not-covers c = λ r are.
    walk_ends r c.args.zone.now c.args.sorted.now are c.loop-at.at c.loop-at.found.items (c.loop-at.invariant r are) c.loop-at-test.true
    c.index-sorted-at.result c.index-sorted-at.is (sym c.covers.ensures ∙ c.if-not-covers.true)

pub loop-at-preserved : goal.loop-at-preserved
loop-at-preserved c = λ r are.
    let xs = c.args.sorted.now in
    let z = c.args.zone.now in
    let i = c.loop-at.at in
    let w = c.index-sorted-at.result in
    let inside = (λ (d : Zone). subst (λ (y : Zone). covers z.prefix y.prefix ≡ true) (c.index-sorted-at.is ∙ get_or_default xs i w d c.loop-at-test.true)
    (sym c.covers.ensures ∙ c.if-not-covers.false)) in
    walk_goes r z xs are i c.loop-at.found.items (c.loop-at.invariant r are) c.loop-at-test.true inside
    w c.index-sorted-at.is c.end_of-at.result c.end_of-at.ensures c.push.new.self.items c.in_ok-push.ensures.items
