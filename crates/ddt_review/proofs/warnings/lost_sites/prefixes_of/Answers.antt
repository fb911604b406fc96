use Rattle.std.proofs.Common.{refl, ap, ◌∙◌}
use Rattle.std.specs.List.{list_any}
use Rattle.std.specs.Ordering.{nat_cmp}
use Rattle.std.specs.Cmp.Lexicographic.{slice_cmp}
use Rattle.std.specs.BTreeSet.{contains}
use Rattle.std.proofs.lemmas.List.{take_all}
use Rattle.ddt_path.specs.Covers.{is_same_path}
use Rattle.ddt_register.specs.declared.site.Site.{Site}
use Rattle.ddt_review.proofs.WarningsLemmas.MarkLemmas.{inserted_now, marks_more}
use Rattle.ddt_review.proofs.warnings.lost_sites.prefixes_of.Goals as goal

pub loop-site-preserved : goal.loop-site-preserved
loop-site-preserved c = λ p.
    let s = c.site-item.result in
    c.in_ok-insert.ensures.updates.0 p
    ∙ inserted_now p s.prefix (contains (slice_cmp nat_cmp) c.loop-site.kept p)
    ∙ marks_more (λ (t : Site). is_same_path p t.prefix) c.args.sites.now c.loop-site.site-index s c.loop-site-test.true
    c.site-item.is _ _ (c.loop-site.invariant p) refl

pub returns : goal.returns
returns c = λ p.
    c.loop-site.invariant p
    ∙ ap (list_any (λ (s : Site). is_same_path p s.prefix)) (take_all c.loop-site.site-index c.args.sites.now c.loop-site-test.false)
