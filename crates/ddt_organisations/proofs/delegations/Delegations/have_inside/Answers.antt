use Rattle.std.proofs.Common.{rules}
use Rattle.ddt_organisations.proofs.delegations.Delegations.have_inside.Goals as goal

pub returns : goal.returns
returns c =
    let said = c.has_above.ensures c.args.self.now.zones.items c.requires in
    search rules
