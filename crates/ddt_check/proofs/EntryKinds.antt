-- The items of entries of each kind.
use Rattle.std.proofs.Common.{ℕ}
use Rattle.ddt_register.specs.declared.zone.Zone.{Zone}
use Rattle.ddt_register.specs.declared.group.Group.{Group}
use Rattle.ddt_register.specs.contracts.item.ZoneItem.TheImpl as zone_item
use Rattle.ddt_register.specs.contracts.item.GroupItem.TheImpl as group_item
use Rattle.ddt_check.specs.declared.entries.SortEntry.{SortEntry}
use Rattle.ddt_check.specs.contracts.keyed.ZoneKeyed.TheImpl as zone_keyed
use Rattle.ddt_check.specs.contracts.keyed.GroupKeyed.TheImpl as group_keyed

abbrev pub entry_zone : SortEntry Zone zone_keyed.ghosts zone_item.ghosts → Zone
entry_zone e = e.item.now

abbrev pub zone_row : Zone → ℕ
zone_row z = z.row

abbrev pub entry_group : SortEntry Group group_keyed.ghosts group_item.ghosts → Group
entry_group e = e.item.now
