use Rattle.std.proofs.Common.{◌≡◌, ◌≤◌, ◌++◌, ◌-◌, length, take}
use Rattle.ddt_path.specs.Locators.{most_locators}
use Rattle.ddt_wire.proofs.addresses.Addresses.first_eight.Given as goal

abbrev pub invariant-loop-len : goal.invariant-loop-len
invariant-loop-len g l = record {
  few : l.len ≤ most_locators;
  long : length l.slots ≡ most_locators;
  so_far : take l.len l.slots ++ l.self ≡ l.fn.self;
}

abbrev pub decreases-loop-len : goal.decreases-loop-len
decreases-loop-len g l = most_locators - l.len
