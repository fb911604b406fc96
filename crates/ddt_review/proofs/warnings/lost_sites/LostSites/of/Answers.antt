use Rattle.std.proofs.Common.{not, ap, ◌∙◌}
use Rattle.std.specs.List.{list_any, count_by}
use Rattle.std.specs.Ordering.{nat_cmp}
use Rattle.std.specs.Cmp.Lexicographic.{slice_cmp}
use Rattle.std.specs.BTreeSet.{contains}
use Rattle.ddt_path.specs.Covers.{is_same_path}
use Rattle.ddt_register.specs.declared.site.Site.{Site}
use Rattle.ddt_review.specs.Warnings.Lost.{has_site}
use Rattle.ddt_review.proofs.WarningsLemmas.LostLemmas.{counts_alike}
use Rattle.ddt_review.proofs.warnings.lost_sites.LostSites.of.Goals as goal

pub returns-clause-gone : goal.returns-clause-gone
returns-clause-gone c =
    let after = c.args.after.now in
    let has = contains (slice_cmp nat_cmp) c.in_ok-kept.kept in
    c.missing_in.ensures
    ∙ counts_alike (λ (s : Site). not (has s.prefix)) (λ (s : Site). not (has_site after s))
    (λ s. ap not (c.in_ok-kept.ensures s.prefix
    ∙ ap (list_any (λ (t : Site). is_same_path s.prefix t.prefix)) c.as_slice.ensures)) c.as_slice-sites.result.now
    ∙ ap (count_by (λ (s : Site). not (has_site after s))) c.as_slice-sites.ensures
