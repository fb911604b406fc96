use Rattle.std.proofs.Common.{◌≡◌, ◌++◌, take, All}
use Rattle.std.specs.List.{flat_map}
use Rattle.ddt_wire.specs.Address.{IsAddress}
use Rattle.ddt_wire.specs.Addresses.{written_behind}
use Rattle.ddt_wire.proofs.addresses.append_addresses.Given as goal

abbrev pub invariant-loop-address : goal.invariant-loop-address
invariant-loop-address l = record {
  bytes : l.bytes.items ≡ l.fn.bytes.items ++ flat_map (written_behind l.before) (take l.address-index l.addresses);
  fit : All IsAddress (take l.address-index l.addresses);
}
