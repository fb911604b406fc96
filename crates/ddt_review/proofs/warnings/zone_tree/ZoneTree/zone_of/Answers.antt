use Rattle.ddt_review.proofs.WarningsLemmas.AboveLemmas.{zones_apart}
use Rattle.ddt_review.proofs.warnings.zone_tree.ZoneTree.zone_of.Goals as goal

pub returns : goal.returns
returns c =
    let r = c.args.self.now.register.now in
    c.longest.ensures r.zones c.requires.kept (zones_apart r c.requires.accepted)
