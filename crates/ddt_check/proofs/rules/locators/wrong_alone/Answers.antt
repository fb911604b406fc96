use Rattle.std.proofs.Common.{rules}
use Rattle.std.proofs.lemmas.List.Sorted.{IsPermutation-refl}
use Rattle.ddt_check.specs.Columns.{is_wrong_alone}
use Rattle.ddt_check.proofs.rules.locators.wrong_alone.Goals as goal

pub returns : goal.returns
returns c = λ r same. c.least_row.ensures is_wrong_alone r.groups (λ item answer h. search rules)
    (rw same (IsPermutation-refl c.args.groups.now))
