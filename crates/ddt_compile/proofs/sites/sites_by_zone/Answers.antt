use Rattle.std.proofs.Common.{◌≡◌, ◌<◌, true, length, get_or, ap, sym, subst, ◌∙◌}
use Rattle.std.specs.Prelude.{◌&&◌}
use Rattle.std.proofs.lemmas.Bool.{and_from, both_ways, false_from_ne_true}
use Rattle.ddt_path.specs.laws.Filter.{none_made}
use Rattle.ddt_path.specs.laws.Member.{in_at, fails_at, in_contained, contained}
use Rattle.ddt_register.specs.declared.zone.Zone.{Zone}
use Rattle.ddt_register.specs.declared.register.Register.{Register}
use Rattle.ddt_check.specs.Zones.{is_ms, is_site_in}
use Rattle.ddt_check.specs.laws.Holder.{holds_site, one_holder}
use Rattle.ddt_check.specs.laws.Kept.{few_etrs}
use Rattle.ddt_compile.specs.GroupConfig.{entry_of, is_wanted}
use Rattle.ddt_compile.proofs.ListLemmas.{grown}
use Rattle.ddt_compile.proofs.sites.sites_by_zone.Goals as goal
use Rattle.ddt_compile.proofs.sites.sites_by_zone.Goals.{in-Some+then-is_wanted+in_ok-append, in-Some+else-is_wanted, in_default}

pub returns-then-not-are_sites_wanted : goal.returns-then-not-are_sites_wanted
returns-then-not-are_sites_wanted c = λ z k ms wanted.
    let r = c.args.accepted.now in
    let only = c.args.only.now in
    let same = c.as_slice.ensures ∙ ap (λ (r : Register). r.zones) c.register-register.ensures.register in
    let none = sym c.are_sites_wanted.ensures ∙ c.if-not-are_sites_wanted.true in
    absurd (both_ways _ (fails_at (λ (y : Zone). is_ms y.kind && is_wanted only y.group) r.zones z (rw same at none) (in_contained r.zones z k))
    (and_from _ _ (ap is_ms ms) wanted))

pub entry-requires : goal.entry-requires
entry-requires c =
    let r = c.args.accepted.now in
    let same = c.as_slice-site-items.ensures ∙ ap (λ (r : Register). r.sites) c.register-register.ensures.register in
    few_etrs r c.register-register.ensures.accepted c.site-item.result
    (in_at r.sites c.loop-site.site-index c.site-item.result (rw same at c.loop-site-test.true) (rw same at c.site-item.is))

pub loop-site-preserved : goal.loop-site-preserved
loop-site-preserved c = λ z k ms wanted.
    let r = c.args.accepted.now in
    let only = c.args.only.now in
    let accepted = c.register-register.ensures.accepted in
    let same = c.as_slice-site-items.ensures ∙ ap (λ (r : Register). r.sites) c.register-register.ensures.register in
    let i = c.loop-site.site-index in
    let x = c.site-item.result in
    let lt : i < length r.sites = rw same at c.loop-site-test.true in
    let is : x ≡ get_or r.sites i x = rw same at c.site-item.is in
    let j = in_contained r.zones z k in
    let site = contained r.sites x (in_at r.sites i x lt is) in
    elim c.match-holder.branch [
      | in-Some+then-is_wanted+in_ok-append w ↦
          let y = w.in-Some.zone in
          let held = w.in-Some.ensures r c.requires site in
          rw w.lists-is
          (grown r.sites i x lt is c.loop-site.lists entry_of (is_site_in z) w.append.new.lists y.prefix z.prefix w.entry.result w.entry.ensures
          (holds_site r accepted z y x j ms (in_contained r.zones y held.0) held.1 held.2) w.in_ok-append.ensures.here w.in_ok-append.ensures.elsewhere
          (c.loop-site.invariant z k ms wanted))
      | in-Some+else-is_wanted w ↦
          let y = w.in-Some.zone in
          let held = w.in-Some.ensures r c.requires site in
          rw w.lists-is (c.loop-site.invariant z k ms wanted
          ∙ none_made (is_site_in z) r.sites i x lt is entry_of (false_from_ne_true _ (λ inside.
          both_ways _ (sym w.is_wanted.ensures ∙ w.if-is_wanted.false) (subst (λ (u : Zone). is_wanted only u.group ≡ true)
          (sym (one_holder r accepted z y x j ms (in_contained r.zones y held.0) held.1 held.2 inside)) wanted))))
      | in_default w ↦ absurd (w.in_default.ensures r c.requires site)
    ]
