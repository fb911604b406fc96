use Rattle.std.proofs.Common.{List, ℕ, length, ◌-◌, ◌++◌, ◌∙◌, ap, sym, subst}
use Rattle.std.specs.List.{filter}
use Rattle.ddt_path.specs.Covers.{is_strictly_below}
use Rattle.ddt_plan.specs.Blocks.{keys_of, pieces}
use Rattle.ddt_plan.specs.Changes.{changes_at}
use Rattle.ddt_plan.specs.Fast.{AreInOrder}
use Rattle.ddt_plan.proofs.AgreeLemmas.{narrowed}
use Rattle.ddt_plan.proofs.ListingLemmas.{are_changes}
use Rattle.ddt_plan.proofs.change_list.changes_of_sorted.Goals as goal

pub returns-clause-given : goal.returns-clause-given
returns-clause-given g c =
    let r = c.pair.inside.before.now in
    let s = c.pair.inside.after.now in
    rw (← c.pair.view_is) (
      changes_at c.args.reading r s (pieces (161 - length c.args.inside) (keys_of r ++ keys_of s) c.args.inside),
      are_changes c.args.reading r s c.args.inside,
      c.walk_both.ensures.given,
    )

pub items_below-requires : goal.items_below-requires
items_below-requires g c =
    let is = c.pair.invariant.2 c.args.inside in
    subst (AreInOrder (λ (p : List ℕ). p)) (sym c.as_slice.ensures.value) is.in_order

pub walk_both-requires : goal.walk_both-requires
walk_both-requires g c =
    let r = c.pair.inside.before.now in
    let s = c.pair.inside.after.now in
    let q = c.args.inside in
    record {
      before = c.side_at.ensures;
      after = c.side_at-2.ensures;
      differing = narrowed r s q q c.pair.inside.differing.items c.items_below.result.now (λ p below. below) (c.pair.invariant.2 q)
          (c.items_below.ensures ∙ ap (filter (λ (p : List ℕ). is_strictly_below p q)) c.as_slice.ensures.value);
    }
