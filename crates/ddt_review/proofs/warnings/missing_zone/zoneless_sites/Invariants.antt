use Rattle.std.proofs.Common.{◌≡◌, take}
use Rattle.std.specs.List.{filter_map}
use Rattle.std.specs.Ordering.{nat_cmp}
use Rattle.std.specs.Cmp.Lexicographic.{slice_cmp}
use Rattle.std.specs.BTreeSet.{contains}
use Rattle.ddt_review.specs.Warnings.Missing.{zoneless_site}
use Rattle.ddt_review.proofs.warnings.missing_zone.zoneless_sites.Given as goal

abbrev pub invariant-loop-site : goal.invariant-loop-site
invariant-loop-site l = l.zoneless.items ≡ filter_map (zoneless_site l.tree.register.now
    (contains (slice_cmp nat_cmp) l.kept) (contains nat_cmp l.rows)) (take l.site-index l.after.sites)
