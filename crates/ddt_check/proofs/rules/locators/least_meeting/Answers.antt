use Rattle.std.proofs.Common.{get_or, drop}
use Rattle.ddt_path.specs.declared.locator.Locator.{Locator}
use Rattle.ddt_path.specs.declared.locator.Locator.TheVariants.{V4}
use Rattle.std.proofs.lemmas.List.Sorted.{IsPermutation-refl}
use Rattle.ddt_check.specs.Columns.{meets_at}
use Rattle.ddt_check.proofs.LeastLemmas.{least_next, least_of_all}
use Rattle.std.proofs.lemmas.List.{get_or_default}
use Rattle.ddt_check.proofs.rules.locators.least_meeting.Goals as goal

pub loop-l-preserved : goal.loop-l-preserved
loop-l-preserved c = λ r moved.
    let xs = c.locators_from-locators.result.now in
    let i = c.loop-l.l-index in
    least_next (λ (x : Locator). meets_at r c.args.column c.args.g.now x) xs i (get_or xs i (V4 0)) c.loop-l.least
    c.meeting_row.result c.lower_of-least.result
    c.loop-l-test.true (get_or_default xs i (V4 0) (get_or xs i (V4 0)) c.loop-l-test.true)
    (c.meeting_row.ensures r c.args.column moved) c.lower_of-least.ensures (c.loop-l.invariant r moved)

pub returns : goal.returns
returns c = λ r moved.
    least_of_all (λ (x : Locator). meets_at r c.args.column c.args.g.now x) (drop c.args.column c.args.g.now.locators)
    c.locators_from-locators.result.now c.loop-l.l-index c.loop-l.least
    (rw (c.locators_from-locators.ensures, c.as_slice.ensures) (IsPermutation-refl (drop c.args.column c.args.g.now.locators)))
    c.loop-l-test.false (c.loop-l.invariant r moved)
