use Rattle.ddt_ecm.specs.Ipv6Header.{written_ipv6}
use Rattle.ddt_ecm.specs.IpHeader.{packet4, packet6}
use Rattle.ddt_ecm.specs.laws.Writing.{two_appends}
use Rattle.ddt_ecm.proofs.ip_header.put_packet.Goals as goal

pub returns-in_ok-put_ipv4-in-V4 : goal.returns-in_ok-put_ipv4-in-V4
unfolding packet4
returns-in_ok-put_ipv4-in-V4 c =
    rw c.in-V4.is (two_appends c.put_udp.result c.args.bytes.now.items c.put_ipv4.new.bytes.items c.put_udp.new.bytes.items _ _ (rw c.source4-source.ensures at c.in_ok-put_ipv4-in-V4.ensures)
    (rw (c.pseudo_sum4-pseudo.ensures, c.addresses4.ensures, c.source4-source.ensures) at c.put_udp.ensures))

pub returns-in_ok-put_ipv6-in-V6 : goal.returns-in_ok-put_ipv6-in-V6
unfolding packet6 written_ipv6
returns-in_ok-put_ipv6-in-V6 c =
    rw c.in-V6.is (two_appends c.put_udp-in-V6.result c.args.bytes.now.items c.put_ipv6.new.bytes.items c.put_udp-in-V6.new.bytes.items _ _ (rw (c.addresses6-addresses.ensures, c.source6.ensures) at c.in_ok-put_ipv6-in-V6.ensures)
    (rw (c.pseudo_sum6.ensures, c.addresses6-addresses.ensures, c.source6.ensures, c.from.ensures) at c.put_udp-in-V6.ensures))
