use Rattle.ddt_register.specs.declared.group.Group.{Group}
use Rattle.std.proofs.lemmas.List.Sorted.{IsPermutation-refl}
use Rattle.ddt_check.specs.Columns.{meets_in}
use Rattle.ddt_check.proofs.LeastLemmas.{least_next, least_of_all}
use Rattle.ddt_check.proofs.rules.locators.shared.Goals as goal

pub loop-g-preserved : goal.loop-g-preserved
loop-g-preserved c = λ r same.
    least_next (λ (x : Group). meets_in r c.args.column x) c.args.groups.now c.loop-g.g-index c.g-item.result
    c.loop-g.least c.least_meeting.result c.lower_of-least.result
    c.loop-g-test.true c.g-item.is
    (c.least_meeting.ensures r (rw same c.requires.moved)) c.lower_of-least.ensures (c.loop-g.invariant r same)

pub returns : goal.returns
returns c = λ r same.
    least_of_all (λ (x : Group). meets_in r c.args.column x) r.groups c.args.groups.now c.loop-g.g-index c.loop-g.least
    (rw same (IsPermutation-refl c.args.groups.now)) c.loop-g-test.false (c.loop-g.invariant r same)
