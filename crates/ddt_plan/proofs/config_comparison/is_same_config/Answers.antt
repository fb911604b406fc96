use Rattle.std.proofs.Common.{sym, ◌∙◌}
use Rattle.std.proofs.lemmas.Bool.{and_parts}
use Rattle.ddt_check.specs.Zones.{is_same_role}
use Rattle.ddt_plan.specs.Changes.{are_same_servers}
use Rattle.ddt_plan.proofs.ConfigLemmas.{config_told}
use Rattle.ddt_plan.proofs.config_comparison.is_same_config.Goals as goal

pub returns-then-have_same_servers : goal.returns-then-have_same_servers
returns-then-have_same_servers c =
    let a = c.args.before in
    let b = c.args.after in
    let p = and_parts (is_same_role a.role b.role) (are_same_servers a.locators b.locators)
    (sym c.have_same_servers.ensures ∙ c.if-have_same_servers.true) in
    config_told a b c.are_alike.result p.0 p.1 c.are_alike.ensures
