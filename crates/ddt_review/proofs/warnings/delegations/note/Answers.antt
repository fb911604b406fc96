use Rattle.std.proofs.Common.{ℕ, Bool, false, ◌||◌, List, Option, sym, ap, ◌∙◌}
use Rattle.std.specs.Prelude.{◌&&◌}
use Rattle.std.specs.Option.{option_map_or}
use Rattle.std.specs.BTreeSet.{contains}
use Rattle.ddt_review.specs.Warnings.Found.{pair_cmp}
use Rattle.ddt_review.specs.Warnings.Warnings.{is_same_pair}
use Rattle.ddt_review.proofs.WarningsLemmas.DelegationLemmas.{pair_inserted, seen_itself}
use Rattle.ddt_review.proofs.warnings.delegations.note.Goals as goal

pub returns-clause-seen : goal.returns-clause-seen
returns-clause-seen c = λ k.
    let before = contains pair_cmp c.args.seen.now k in
    c.in_ok-insert.ensures.updates.0 k
    ∙ pair_inserted k c.in-Some.pair before
    ∙ ap (λ (o : Option (List ℕ × List ℕ)). before || option_map_or (is_same_pair k) o false) (sym c.in-Some.is)

pub returns-clause-usual : goal.returns-clause-usual
returns-clause-usual c = λ k.
    let before = contains pair_cmp c.args.usual.now k in
    let seen = contains pair_cmp c.args.seen.now in
    c.in_ok-mark_pair.ensures k
    ∙ ap (λ (b : Bool). before || (b && is_same_pair k c.in-Some.pair)) c.contains.ensures
    ∙ ap (λ (b : Bool). before || b) (seen_itself seen k c.in-Some.pair)
    ∙ ap (λ (o : Option (List ℕ × List ℕ)). before || (seen k && option_map_or (is_same_pair k) o false)) (sym c.in-Some.is)
