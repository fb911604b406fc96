use Rattle.std.proofs.Common.{length}
use Rattle.ddt_review.proofs.sheets.rule_reasons.+repeated.Given as goal

abbrev pub decreases-repeated : goal.decreases-repeated
decreases-repeated l = length l.locators.now
