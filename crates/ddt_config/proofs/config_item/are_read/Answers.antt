use Rattle.std.proofs.Common.{sym, ◌∙◌}
use Rattle.toml.specs.View.{view}
use Rattle.ddt_config.specs.Table.{item_of}
use Rattle.ddt_config.proofs.PlaceLemmas.{is_ok_viewed}
use Rattle.ddt_config.proofs.config_item.are_read.Goals as goal

pub returns-in-Ok : goal.returns-in-Ok
returns-in-Ok g c = rw c.in-Ok.ensures (c.is_each_read.ensures ∙ sym (is_ok_viewed view (item_of c.args.key (g.T.ConfigItem.item_in c.args.role)) c.in-Ok.values.now))
