use Rattle.std.proofs.Common.{sym}
use Rattle.ddt_review.proofs.WarningsLemmas.KeptLemmas.{longest_kept, none_kept}
use Rattle.ddt_review.proofs.warnings.by_prefix.longest.Goals as goal

pub returns-in-Some : goal.returns-in-Some
returns-in-Some g c = λ items has apart.
    sym (longest_kept g.T.Prefixed.path items apart _ has c.args.prefix c.in-Some.found.0 c.in-Some.found.1.now
    c.in-Some.ensures.longest)

pub returns-in-None : goal.returns-in-None
returns-in-None g c = λ items has apart.
    sym (none_kept g.T.Prefixed.path items apart _ has c.args.prefix c.in-None.ensures.covered)
