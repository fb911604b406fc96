use Rattle.std.proofs.Common.{sym, ◌∙◌}
use Rattle.ddt_asking.proofs.ChangedLemmas.{same_servers}
use Rattle.ddt_asking.proofs.questions_of_change.are_same.Goals as goal

pub returns : goal.returns
returns c =
    let decides = same_servers c.args.one.now c.args.other.now in
    ((λ t. decides.0 (sym c.are_alike.ensures ∙ t)), (λ s. c.are_alike.ensures ∙ decides.1 s))
