use Rattle.std.proofs.Common.{◌≡◌, false, take}
use Rattle.std.specs.List.{list_any}
use Rattle.ddt_register.specs.declared.zone.Zone.{Zone}
use Rattle.ddt_plan_commands.specs.Referrals.{is_outdated_at}
use Rattle.ddt_plan_commands.proofs.referrals.has_outdated.Given as goal

abbrev pub invariant-loop-zone : goal.invariant-loop-zone
invariant-loop-zone l =
    list_any (λ (z : Zone). is_outdated_at l.before l.after z.prefix) (take l.zone-index l.zone-items) ≡ false
