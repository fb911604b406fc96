use Rattle.std.proofs.Common.{Bool, ◌||◌, sym, ap, ◌∙◌}
use Rattle.std.specs.Prelude.{◌&&◌}
use Rattle.std.specs.Ordering.{nat_cmp}
use Rattle.std.specs.Cmp.Lexicographic.{slice_cmp}
use Rattle.std.specs.BTreeSet.{contains}
use Rattle.ddt_path.specs.Names.{is_same_name}
use Rattle.ddt_review.proofs.WarningsLemmas.MarkLemmas.{inserted_now}
use Rattle.ddt_review.proofs.warnings.delegations.mark.Goals as goal

pub returns-in_ok-insert : goal.returns-in_ok-insert
returns-in_ok-insert c = λ n.
    let before = contains (slice_cmp nat_cmp) c.args.names.now n in
    c.in_ok-insert.ensures.updates.0 n
    ∙ inserted_now n c.args.name before
    ∙ ap (λ (b : Bool). before || (b && is_same_name n c.args.name)) (sym c.if-is_wanted.true)
