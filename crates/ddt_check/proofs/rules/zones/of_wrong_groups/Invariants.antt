use Rattle.std.proofs.Common.{take, map, IsPermutation}
use Rattle.ddt_register.specs.declared.zone.Zone.{Zone}
use Rattle.ddt_register.specs.declared.register.Register.{Register}
use Rattle.ddt_check.specs.Rules.{IsLeastRow, item_at, is_of_unknown_group, is_of_other_role}
use Rattle.ddt_check.proofs.EntryKinds.{entry_group}
use Rattle.ddt_check.proofs.rules.zones.of_wrong_groups.Given as goal

abbrev pub invariant-loop-z : goal.invariant-loop-z
invariant-loop-z l = record {
  unknown : (r : Register) → IsPermutation r.groups (map entry_group l.groups) → IsLeastRow
      (item_at (λ (z : Zone). z.row) (is_of_unknown_group r) (take l.z-index l.zones)) l.found.unknown;
  role : (r : Register) → IsPermutation r.groups (map entry_group l.groups) → IsLeastRow
      (item_at (λ (z : Zone). z.row) (is_of_other_role r) (take l.z-index l.zones)) l.found.role;
}
