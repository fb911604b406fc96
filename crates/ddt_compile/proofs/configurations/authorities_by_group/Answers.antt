use Rattle.std.proofs.Common.{◌≡◌, ◌<◌, true, List, length, get_or, ap, sym, subst, ◌∙◌, ℕ}
use Rattle.std.specs.Cmp.Lexicographic.{nat_list_eq_equiv}
use Rattle.std.proofs.lemmas.Bool.{both_ways, false_from_ne_true}
use Rattle.ddt_path.specs.laws.Cover.{same_path}
use Rattle.ddt_path.specs.laws.Filter.{none_made}
use Rattle.ddt_path.specs.laws.Member.{contained}
use Rattle.ddt_path.specs.declared.record.Role.TheVariants.{Ms}
use Rattle.ddt_register.specs.declared.zone.Zone.{Zone}
use Rattle.ddt_register.specs.declared.register.Register.{Register}
use Rattle.ddt_register.specs.laws.Rising.{zones_rise}
use Rattle.ddt_check.specs.Zones.{is_served_by}
use Rattle.ddt_check.specs.laws.Kept.{own_prefix}
use Rattle.ddt_compile.specs.GroupConfig.{sites_of, authority_of, is_wanted}
use Rattle.ddt_compile.proofs.ListLemmas.{grown, list_at-empty, left_alone, left_others}
use Rattle.ddt_compile.proofs.configurations.authorities_by_group.Goals as goal
use Rattle.ddt_compile.proofs.configurations.authorities_by_group.Goals.{then-is_wanted+in_ok-authority+in_ok-append, else-is_wanted}

pub loop-zone-init : goal.loop-zone-init
loop-zone-init c = (
  λ z k held. c.in_ok-sites.ensures z (contained c.args.accepted.now.zones z k) held.0 held.1,
  λ g wanted. list_at-empty c.new-lists.result g.name c.new-lists.ensures.empty,
)

pub loop-zone-preserved : goal.loop-zone-preserved
loop-zone-preserved c =
    let r = c.args.accepted.now in
    let only = c.args.only.now in
    let same = c.as_slice-zones.ensures ∙ ap (λ (r : Register). r.zones) c.register.ensures.register in
    let i = c.loop-zone.zone-index in
    let x = c.zone-item.result in
    let lt : i < length r.zones = rw same at c.loop-zone-test.true in
    let is : x ≡ get_or r.zones i x = rw same at c.zone-item.is in
    let P = (λ (z : Zone). (z.kind ≡ Ms) × (is_wanted only z.group ≡ true)) in
    elim c.if-is_wanted.branch [
      | then-is_wanted+in_ok-authority+in_ok-append w ↦ rw (w.sites-is, w.lists-is) (
        left_others r.zones i x lt is c.loop-zone.sites (λ z. z.prefix) (sites_of r) P c.loop-zone.invariant.0 (λ z. z.row) (zones_rise r)
            (own_prefix r c.register.ensures.accepted) w.authority.new.sites w.in_ok-authority.ensures.others,
        λ g wanted. grown r.zones i x lt is c.loop-zone.lists (authority_of r)
            (is_served_by g) w.append.new.lists x.group g.name w.in_ok-authority.authority w.in_ok-authority.ensures.authority
            (nat_list_eq_equiv.symm x.group g.name) w.in_ok-append.ensures.here w.in_ok-append.ensures.elsewhere (c.loop-zone.invariant.1 g wanted),
      )
      | else-is_wanted w ↦ rw (w.sites-is, w.lists-is) (
        left_alone r.zones i x lt is c.loop-zone.sites (λ z. z.prefix) (sites_of r) P c.loop-zone.invariant.0,
        λ g wanted. c.loop-zone.invariant.1 g wanted ∙ none_made (is_served_by g) r.zones i x lt is (authority_of r)
            (false_from_ne_true _ (λ own.
            both_ways _ (sym c.is_wanted.ensures ∙ w.if-is_wanted.false)
            (subst (λ (n : List ℕ). is_wanted only n ≡ true) (same_path g.name x.group own) wanted))),
      )
    ]
