use Rattle.std.proofs.Common.{arith}
use Rattle.ddt_register.specs.laws.Count.{few_rows}
use Rattle.ddt_check.proofs.FingerprintLemmas.{share_none}
use Rattle.ddt_check.proofs.WrongLemmas.{least_alone}
use Rattle.ddt_check.proofs.rules.locators.wrong_locators.Goals as goal

pub are_told_apart-requires : goal.are_told_apart-requires
are_told_apart-requires c = few_rows _ _ c.requires

pub wrong_by_columns-requires : goal.wrong_by_columns-requires
wrong_by_columns-requires c = few_rows _ _ c.requires

pub returns-then-are_told_apart : goal.returns-then-are_told_apart
returns-then-are_told_apart c = λ r same. least_alone r (λ h g l before. share_none r.groups h g l
    (rw same (c.are_told_apart.ensures c.if-are_told_apart.true)) before.0 before.1
    (λ e. let lt = before.2 in omega arith)) c.wrong_alone.result (c.wrong_alone.ensures r same)
