use Rattle.std.proofs.Common.{◌∙◌}
use Rattle.ddt_commands.proofs.LookupLemmas.{push_replied, read_as}
use Rattle.ddt_commands.proofs.commands.lookup.push_hop.Goals as goal

pub returns-in_ok-hop_line-in-Ok : goal.returns-in_ok-hop_line-in-Ok
returns-in_ok-hop_line-in-Ok c =
    push_replied c.extend_from_slice.result c.extend_from_slice.new.self.items c.args.text.now.items c.deref.result.now c.args.hop.now c.extend_from_slice.ensures.items
    (c.deref.ensures.value ∙ c.in_ok-hop_line-in-Ok.ensures ∙ read_as c.as_slice.result.now c.args.hop.now c.in-Ok.referral c.in-Ok.ensures.exact c.as_slice.ensures)
