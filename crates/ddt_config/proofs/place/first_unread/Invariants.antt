use Rattle.std.proofs.Common.{◌≡◌, ◌+◌, map, drop}
use Rattle.std.specs.Prelude.{is_ok}
use Rattle.toml.specs.Data.{Members}
use Rattle.toml.specs.View.{view}
use Rattle.ddt_config.specs.Place.{first_unread}
use Rattle.ddt_config.proofs.place.first_unread.Given as goal

abbrev pub invariant-loop-index : goal.invariant-loop-index
invariant-loop-index g l =
    let is_read = λ (ms : Members). is_ok (g.T.ConfigItem.item_in l.role ms) in
    first_unread is_read 1 (map view l.values) ≡ first_unread is_read (l.index + 1) (map view (drop l.index l.values))
