use Rattle.std.proofs.Common.{◌≡◌, ℕ, ◌+◌, Bool, List, [], ◌++◌, take, append-nil, Option, sym, ap, ◌∙◌}
use Rattle.std.specs.List.{filter_map, cons_option}
use Rattle.std.specs.Ordering.{nat_cmp}
use Rattle.std.specs.Cmp.Lexicographic.{slice_cmp}
use Rattle.std.specs.BTreeSet.{contains}
use Rattle.std.proofs.lemmas.List.{take_all}
use Rattle.ddt_register.specs.declared.zone.Zone.{Zone}
use Rattle.ddt_register.specs.declared.site.Site.{Site}
use Rattle.ddt_register.specs.declared.register.Register.{Register}
use Rattle.ddt_review.specs.declared.warnings.missing_zone.ZonelessSite.{ZonelessSite}
use Rattle.ddt_review.specs.Warnings.Missing.{has_zone, zoneless_site}
use Rattle.ddt_review.proofs.WarningsLemmas.MissingLemmas.{found_more}
use Rattle.ddt_review.proofs.warnings.missing_zone.zoneless_sites.Goals as goal
use Rattle.ddt_review.proofs.warnings.missing_zone.zoneless_sites.Goals.{in-Some+in_ok-push, in_default}

pub loop-site-preserved : goal.loop-site-preserved
loop-site-preserved c =
    let f = zoneless_site c.in_ok-tree.tree.register.now (contains (slice_cmp nat_cmp) c.in_ok-kept.kept)
    (contains nat_cmp c.args.rows.now) in
    let sites = c.as_slice-site-items.result.now in
    let same = c.as_slice-site-items.ensures in
    let i = c.loop-site.site-index in
    let old = c.loop-site.zoneless.items in
    let before = c.loop-site.invariant ∙ ap (λ (l : List Site). filter_map f (take i l)) (sym same) in
    let step = found_more f sites i c.site-item.result old c.match-zoneless_site.zoneless.items c.zoneless_site.result
    c.loop-site-test.true c.site-item.is before c.zoneless_site.ensures in
    (elim c.match-zoneless_site.branch [
      | in-Some+in_ok-push w ↦
          step (ap (λ v. v.items) w.zoneless-is
          ∙ w.in_ok-push.ensures.items
          ∙ ap (λ (o : Option ZonelessSite). old ++ cons_option o []) (sym w.in-Some.is))
      | in_default w ↦
          step (ap (λ v. v.items) w.zoneless-is
          ∙ sym (append-nil old)
          ∙ ap (λ (o : Option ZonelessSite). old ++ cons_option o []) (sym w.in_default.is))
    ])
    ∙ ap (λ (l : List Site). filter_map f (take (i + 1) l)) same

pub returns : goal.returns
returns c =
    let asked = contains nat_cmp c.args.rows.now in
    let has : List ℕ → Bool = contains (slice_cmp nat_cmp) c.in_ok-kept.kept in
    let f = zoneless_site c.in_ok-tree.tree.register.now has asked in
    let sites = c.args.after.now.sites in
    let same = c.as_slice-site-items.ensures in
    let i = c.loop-site.site-index in
    let told : (p : List ℕ) → has p ≡ has_zone c.args.after.now.zones p =
    λ p. c.in_ok-kept.ensures p ∙ ap (λ (zones : List Zone). has_zone zones p) c.as_slice.ensures in
    let kept : has ≡ has_zone c.args.after.now.zones = λ j p. told p j in
    c.loop-site.invariant
    ∙ ap (λ (l : List Site). filter_map f (take i l)) (sym same)
    ∙ ap (filter_map f) (take_all i c.as_slice-site-items.result.now c.loop-site-test.false ∙ same)
    ∙ ap (λ (r : Register). filter_map (zoneless_site r has asked) sites) c.in_ok-tree.ensures.register
    ∙ ap (λ (k : List ℕ → Bool). filter_map (zoneless_site c.args.before.now k asked) sites) kept
