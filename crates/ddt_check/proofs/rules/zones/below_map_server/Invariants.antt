use Rattle.std.proofs.Common.{take, map, IsPermutation}
use Rattle.std.specs.Option.{option_map, option_copied}
use Rattle.ddt_register.specs.declared.zone.Zone.{Zone}
use Rattle.ddt_register.specs.declared.register.Register.{Register}
use Rattle.ddt_check.specs.Rules.{IsLeastRow, item_at, is_below_map_server}
use Rattle.ddt_check.specs.laws.Below.{IsTop}
use Rattle.ddt_check.proofs.EntryKinds.{entry_zone}
use Rattle.ddt_check.proofs.rules.zones.below_map_server.Given as goal

abbrev pub invariant-loop-entry : goal.invariant-loop-entry
invariant-loop-entry l = record {
  rows : (r : Register) → IsPermutation r.zones (map entry_zone l.entries) → IsLeastRow
      (item_at (λ (z : Zone). z.row) (is_below_map_server r) (take l.entry-index (map entry_zone l.entries))) l.least;
  top : IsTop (map entry_zone l.entries) l.entry-index (option_map (λ (z : Zone). z.prefix) (option_copied l.top));
}
