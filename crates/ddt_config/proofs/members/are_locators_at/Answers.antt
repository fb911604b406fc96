use Rattle.std.proofs.Common.{sym, ◌∙◌}
use Rattle.toml.specs.View.{view}
use Rattle.ddt_config.specs.Table.{locator_of}
use Rattle.ddt_config.proofs.PlaceLemmas.{is_ok_viewed}
use Rattle.ddt_config.proofs.members.are_locators_at.Goals as goal

pub returns-in-Ok : goal.returns-in-Ok
returns-in-Ok c = rw c.in-Ok.ensures (c.are_locators.ensures ∙ sym (is_ok_viewed view (locator_of c.args.key) c.in-Ok.values.now))
