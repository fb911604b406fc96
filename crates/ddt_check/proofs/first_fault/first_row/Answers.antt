use Rattle.std.proofs.Common.{sym, arith}
use Rattle.ddt_check.specs.declared.fault.Rule.TheVariants as rules
use Rattle.ddt_check.proofs.first_fault.first_row.Goals as goal

pub returns-in-Locators : goal.returns-in-Locators
returns-in-Locators c = λ found earlier.
    rw c.in-Locators.is (c.wrong_locators.ensures c.args.register.now (sym c.as_slice.ensures))

pub returns-in-SiteOutside : goal.returns-in-SiteOutside
returns-in-SiteOutside c = λ found earlier.
    rw c.in-SiteOutside.is (found.zones.outside
    (λ n. earlier rules.DuplicateZone n (rw c.in-SiteOutside.is (omega arith)))
    (λ n. earlier rules.BelowMapServer n (rw c.in-SiteOutside.is (omega arith))))
