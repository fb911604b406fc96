use Rattle.std.proofs.Common.{ℕ, ◌-◌, ap, ◌∙◌}
use Rattle.ddt_ecm.specs.Checksum.{ones_sum}
use Rattle.ddt_ecm.specs.Ipv4Header.{ipv4_header, written_ipv4}
use Rattle.ddt_ecm.specs.laws.Writing.{appended}
use Rattle.ddt_ecm.proofs.ipv4_header.put_ipv4.Goals as goal

pub returns : goal.returns
unfolding written_ipv4
returns c =
    appended c.extend_from_slice.result c.args.bytes.now.items c.extend_from_slice.new.self.items c.ipv4_header-2.result (written_ipv4 c.args.total c.args.source c.args.destination) c.extend_from_slice.ensures.items
    (c.ipv4_header-2.ensures ∙ ap (λ (s : ℕ). ipv4_header c.args.total (65535 - s) c.args.source c.args.destination) (c.sum-checksum.ensures ∙ ap (ones_sum 0) c.ipv4_header.ensures))
