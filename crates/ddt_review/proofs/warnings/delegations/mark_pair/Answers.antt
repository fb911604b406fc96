use Rattle.std.proofs.Common.{Bool, ◌||◌, sym, ap, ◌∙◌}
use Rattle.std.specs.Prelude.{◌&&◌}
use Rattle.std.specs.BTreeSet.{contains}
use Rattle.ddt_review.specs.Warnings.Found.{pair_cmp}
use Rattle.ddt_review.specs.Warnings.Warnings.{is_same_pair}
use Rattle.ddt_review.proofs.WarningsLemmas.DelegationLemmas.{pair_inserted}
use Rattle.ddt_review.proofs.warnings.delegations.mark_pair.Goals as goal

pub returns-in_ok-insert : goal.returns-in_ok-insert
returns-in_ok-insert c = λ k.
    let before = contains pair_cmp c.args.pairs.now k in
    c.in_ok-insert.ensures.updates.0 k
    ∙ pair_inserted k c.args.pair before
    ∙ ap (λ (b : Bool). before || (b && is_same_pair k c.args.pair)) (sym c.if-is_wanted.true)
