use Rattle.std.proofs.Common.{◌≡◌, length, map, take}
use Rattle.ddt_deploy.specs.Loopback.Addresses.{server_addresses}
use Rattle.ddt_deploy.specs.Loopback.Moved.{kept_of, locators_in}
use Rattle.ddt_deploy.proofs.loopback.moved_register.moved_groups.Given as goal

abbrev pub invariant-loop-group : goal.invariant-loop-group
invariant-loop-group l = (l.first ≡ length (locators_in (take l.group-index l.groups)))
    × (map kept_of l.moved.items ≡ map kept_of (take l.group-index l.groups))
    × (locators_in l.moved.items ≡ server_addresses l.first)
