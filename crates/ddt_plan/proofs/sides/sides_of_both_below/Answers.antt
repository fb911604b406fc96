use Rattle.std.proofs.Common.{true, false, sym, subst, rules}
use Rattle.ddt_plan.specs.Fast.{IsSide}
use Rattle.ddt_plan.proofs.SideLemmas.{half_below, narrower}
use Rattle.ddt_plan.proofs.AgreeLemmas.{narrowed}
use Rattle.ddt_plan.proofs.sides.sides_of_both_below.Goals as goal

pub returns : goal.returns
returns c =
    let r = c.args.before.now in
    let s = c.args.after.now in
    let q = c.args.whole in
    let is = c.requires.sides.differing in
    let marked = c.args.sides.now.differing.now in (
      record {
        before = subst (λ l. IsSide r l c.sides_at_halves-old_low.result.0) (sym c.requires.lower) c.sides_at_halves-old_low.ensures.0;
        after = subst (λ l. IsSide s l c.sides_at_halves-new_low.result.0) (sym c.requires.lower) c.sides_at_halves-new_low.ensures.0;
        differing = narrowed r s q c.args.lower marked c.items_below.result.now (narrower r q c.args.lower (half_below false q c.args.lower c.requires.lower)) is (search rules);
      },
      record {
        before = subst (λ l. IsSide r l c.sides_at_halves-old_low.result.1) (sym c.requires.upper) c.sides_at_halves-old_low.ensures.1;
        after = subst (λ l. IsSide s l c.sides_at_halves-new_low.result.1) (sym c.requires.upper) c.sides_at_halves-new_low.ensures.1;
        differing = narrowed r s q c.args.upper marked c.items_below-2.result.now (narrower r q c.args.upper (half_below true q c.args.upper c.requires.upper)) is c.items_below-2.ensures;
      },
    )
