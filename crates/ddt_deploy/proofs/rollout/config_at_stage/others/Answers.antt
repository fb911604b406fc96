use Rattle.std.proofs.Common.{rules, ap, ◌∙◌, Bool}
use Rattle.std.specs.Prelude.{not}
use Rattle.std.specs.List.{filter}
use Rattle.std.proofs.lemmas.Fn.{filter_same}
use Rattle.ddt_path.specs.declared.locator.Locator.{Locator}
use Rattle.ddt_path.specs.Locators.{lists}
use Rattle.ddt_deploy.proofs.rollout.config_at_stage.others.Goals as goal

pub returns : goal.returns
returns c =
    let keeps : Locator → Bool = λ l. not (lists c.args.later.now l) in
    filter_same _ keeps _ (λ e b f k. search rules) _ _ c.retain.ensures.filtered ∙ ap (filter keeps) c.in_ok-others.ensures.items
