use Rattle.std.proofs.Common.{◌≡◌, sym, subst, ◌∙◌, rules}
use Rattle.ddt_path.specs.Covers.{is_same_path}
use Rattle.ddt_path.specs.laws.Member.{IsIn, found_in}
use Rattle.ddt_plan.proofs.differences.has.Goals as goal

pub returns-in-Some : goal.returns-in-Some
returns-in-Some g c = λ same.
    let said = c.is_same.ensures.0 same in
    let is : c.in-Some.other ≡ c.args.item.now = search rules in
    subst (λ a. IsIn a c.args.others.now) is
    (found_in (λ a. is_same_path (g.T.Prefixed.path a) c.prefix.result) c.args.others.now c.in-Some.other (sym c.item_of_prefix.ensures ∙ c.in-Some.is))
