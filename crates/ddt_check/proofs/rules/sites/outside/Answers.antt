use Rattle.std.proofs.Common.{rules}
use Rattle.ddt_check.specs.Rules.{is_outside}
use Rattle.ddt_check.proofs.rules.sites.outside.Goals as goal

pub returns : goal.returns
returns c = λ r moved zoned single leaves.
    c.least_row.ensures (is_outside r) r.sites (λ item answer h. search rules) moved
