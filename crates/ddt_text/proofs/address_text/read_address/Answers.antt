use Rattle.std.proofs.Common.{sym, ◌∙◌}
use Rattle.std.specs.Net.Grammar.{IsIpv4Text, IsIpv6Text}
use Rattle.ddt_text.specs.laws.Address.{parsed, not_parsed, read_ipv4-some, read_ipv4-none, read_ipv6-some, read_ipv6-none}
use Rattle.ddt_text.proofs.address_text.read_address.Goals as goal

pub returns-in_err-address : goal.returns-in_err-address
returns-in_err-address c =
    c.from_residual.ensures
    ∙ read_ipv4-none c.args.text.now (sym c.contains.ensures.value ∙ c.if-contains.true) (not_parsed IsIpv4Text c.args.text.now c.parse_ascii.result c.parse_ascii.ensures c.in_err-address.ensures.value)

pub returns-in_err-address-2 : goal.returns-in_err-address-2
returns-in_err-address-2 c =
    c.from_residual-in_err-address-2.ensures
    ∙ read_ipv6-none c.args.text.now (sym c.contains.ensures.value ∙ c.if-contains.false) (not_parsed IsIpv6Text c.args.text.now c.parse_ascii-else-contains.result c.parse_ascii-else-contains.ensures c.in_err-address-2.ensures.value)

pub returns-in_ok-address : goal.returns-in_ok-address
returns-in_ok-address c =
    read_ipv4-some c.args.text.now c.in_ok-address.address c.to_bits-then-contains.result c.to_bits-then-contains.ensures
    (parsed IsIpv4Text c.args.text.now c.parse_ascii.result c.in_ok-address.address c.parse_ascii.ensures c.in_ok-address.ensures.value)

pub returns-in_ok-address-2 : goal.returns-in_ok-address-2
returns-in_ok-address-2 c =
    read_ipv6-some c.args.text.now c.in_ok-address-2.address c.to_bits-else-contains.result (sym c.contains.ensures.value ∙ c.if-contains.false) c.to_bits-else-contains.ensures
    (parsed IsIpv6Text c.args.text.now c.parse_ascii-else-contains.result c.in_ok-address-2.address c.parse_ascii-else-contains.ensures c.in_ok-address-2.ensures.value)

pub returns-in-Some : goal.returns-in-Some
returns-in-Some c = read_ipv4-some c.args.text.now c.in-Some.address c.to_bits.result c.to_bits.ensures c.in-Some.ensures
