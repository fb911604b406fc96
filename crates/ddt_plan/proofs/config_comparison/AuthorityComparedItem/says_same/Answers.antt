use Rattle.ddt_plan.proofs.ConfigLemmas.{children_told, sites_told}
use Rattle.ddt_plan.proofs.config_comparison.AuthorityComparedItem.says_same.Goals as goal

pub returns-in-Children-Children : goal.returns-in-Children-Children
returns-in-Children-Children c =
    let both = c.in-Children-Children in
    children_told c.args.self.content c.args.other.content both.before both.after both.is-0 both.is-1 c.are_alike.result
    c.are_alike.ensures

pub returns-in-Sites-Sites : goal.returns-in-Sites-Sites
returns-in-Sites-Sites c =
    let both = c.in-Sites-Sites in
    let call = c.are_alike-in-Sites-Sites in
    sites_told c.args.self.content c.args.other.content both.before both.after both.is-0 both.is-1 call.result
    call.ensures
