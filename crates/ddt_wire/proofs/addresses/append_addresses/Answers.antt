use Rattle.ddt_wire.specs.Addresses.{written_behind}
use Rattle.ddt_wire.proofs.AppendLemmas.{appended_more}
use Rattle.ddt_wire.proofs.AddressesLemmas.{fit_more, written_more}
use Rattle.ddt_wire.proofs.addresses.append_addresses.Goals as goal

pub loop-address-preserved : goal.loop-address-preserved
loop-address-preserved c = record {
  bytes = written_more (written_behind c.args.before.now) c.args.bytes.now.items c.loop-address.bytes.items c.write_address.new.bytes.items c.args.addresses.now c.loop-address.address-index _ c.loop-address-test.true c.loop-address.invariant.bytes (appended_more c.loop-address.bytes.items c.extend_from_slice.new.self.items c.write_address.new.bytes.items c.args.before.now _ c.in_ok-extend_from_slice.ensures.items c.in_ok-write_address.ensures.written);
  fit = fit_more c.args.addresses.now c.loop-address.address-index _ c.loop-address-test.true c.loop-address.invariant.fit c.in_ok-write_address.ensures.fits;
}
