use Rattle.std.proofs.Common.{refl}
use Rattle.std.specs.Int.{w32, to_be_bytes}
use Rattle.ddt_ecm.specs.laws.Checksum.{ones_sum-three}
use Rattle.ddt_ecm.proofs.ipv6_header.pseudo_sum6.Goals as goal

pub returns : goal.returns
returns c = ones_sum-three 16 2 c.args.addresses.now (to_be_bytes w32 c.args.len) (to_be_bytes w32 17) 0 c.sum.result c.sum-start.result c.sum-2.result c.requires refl c.sum.ensures (rw c.to_be_bytes.ensures at c.sum-start.ensures) (rw (c.to_be_bytes-2.ensures, c.from.ensures) at c.sum-2.ensures)
