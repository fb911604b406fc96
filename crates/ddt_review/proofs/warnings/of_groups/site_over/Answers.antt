use Rattle.std.proofs.Common.{ℕ, List, ap, ◌∙◌}
use Rattle.ddt_check.specs.Zones.{site_of}
use Rattle.ddt_review.specs.Warnings.Index.{register_of}
use Rattle.ddt_review.proofs.WarningsLemmas.AboveLemmas.{sites_apart}
use Rattle.ddt_review.proofs.warnings.of_groups.site_over.Goals as goal

pub returns : goal.returns
returns c =
    let r = register_of c.args.index.now in
    c.longest.ensures r.sites c.requires.sites (sites_apart r c.requires.tree.accepted)
    ∙ ap (λ (x : List ℕ). site_of r x) c.host.ensures.whole
