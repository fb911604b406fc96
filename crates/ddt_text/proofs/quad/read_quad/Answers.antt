use Rattle.std.proofs.Common.{sym}
use Rattle.std.specs.Net.Addr.{ipv4_octets}
use Rattle.ddt_text.specs.laws.Address.{ipv4-whole}
use Rattle.ddt_text.proofs.quad.read_quad.Goals as goal

pub returns-in-Some-default-empty : goal.returns-in-Some-default-empty
returns-in-Some-default-empty c =
    let e = c.in-Some-default-empty in
    ipv4-whole c.args.text.now (ipv4_octets e.address) e.field-0-1.now (sym e.ensures) e.len_below
