use Rattle.std.proofs.Common.{◌≡◌, take, map}
use Rattle.ddt_config.proofs.config_item.finish_each.Given as goal

abbrev pub invariant-loop-draft : goal.invariant-loop-draft
invariant-loop-draft g l = l.items.items ≡ map g.T.ConfigItem.finished (take l.draft-index l.drafts)
