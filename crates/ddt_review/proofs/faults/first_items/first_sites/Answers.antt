use Rattle.std.specs.Ordering.{nat_cmp}
use Rattle.std.specs.Cmp.Lexicographic.{slice_cmp}
use Rattle.std.specs.BTreeMap.{get}
use Rattle.ddt_path.specs.Covers.{is_same_path}
use Rattle.ddt_register.specs.declared.site.Site.{Site}
use Rattle.ddt_review.proofs.FaultsLemmas.FirstLemmas.{first_more, put_path}
use Rattle.ddt_review.proofs.faults.first_items.first_sites.Goals as goal

pub loop-site-preserved : goal.loop-site-preserved
loop-site-preserved c = λ p.
    let s = c.site-item.result in
    let old = get (slice_cmp nat_cmp) c.loop-site.first in
    let new = get (slice_cmp nat_cmp) c.put_first.new.map in
    first_more (λ (t : Site). t.row) (λ (t : Site). is_same_path t.prefix p) c.args.sites.now c.loop-site.site-index s
    c.loop-site-test.true c.site-item.is (old p) (new p) (c.loop-site.invariant p)
    (put_path old new s.prefix s.row c.in_ok-put_first.ensures.here c.in_ok-put_first.ensures.elsewhere p)
