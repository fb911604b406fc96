use Rattle.std.specs.Int.{w16, w128, to_be_bytes}
use Rattle.ddt_wire.proofs.AppendLemmas.{appended_after}
use Rattle.ddt_wire.proofs.address.write_address.Goals as goal

pub returns-in_ok-extend_from_slice-in-V6-clause-written :
    goal.returns-in_ok-extend_from_slice-in-V6-clause-written
returns-in_ok-extend_from_slice-in-V6-clause-written c =
    rw c.in-V6.is (appended_after c.extend_from_slice-in-V6-2.result c.args.bytes.now.items c.extend_from_slice-in-V6.new.self.items c.extend_from_slice-in-V6-2.new.self.items (to_be_bytes w16 2) (to_be_bytes w128 c.in-V6.number)
    (rw (c.to_be_bytes-in-V6.ensures, c.in_ok-reserve-in-V6.ensures.items) at c.in_ok-extend_from_slice-in-V6.ensures.items)
    (rw c.to_be_bytes-in-V6-2.ensures at c.extend_from_slice-in-V6-2.ensures.items))
