use Rattle.std.proofs.Common.{◌∷◌, [], refl}
use Rattle.std.specs.Int.{w16, to_be_bytes}
use Rattle.ddt_ecm.specs.laws.Checksum.{ones_sum-three}
use Rattle.ddt_ecm.proofs.ipv4_header.pseudo_sum4.Goals as goal

pub returns : goal.returns
returns c = ones_sum-three 4 1 c.args.addresses.now (0 ∷ 17 ∷ []) (to_be_bytes w16 c.args.len) 0 c.sum.result c.sum-start.result c.sum-2.result c.requires refl c.sum.ensures c.sum-start.ensures (rw c.to_be_bytes.ensures at c.sum-2.ensures)
