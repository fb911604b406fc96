use Rattle.std.proofs.Common.{ℕ, false, List, ap, ◌∙◌}
use Rattle.std.specs.Prelude.{◌&&◌}
use Rattle.std.specs.List.{list_any}
use Rattle.std.specs.Option.{option_map_or}
use Rattle.std.specs.BTreeSet.{contains}
use Rattle.std.proofs.lemmas.List.{take_all}
use Rattle.ddt_path.specs.Names.{is_same_name}
use Rattle.ddt_register.specs.declared.zone.Zone.{Zone}
use Rattle.ddt_review.specs.Warnings.Found.{pair_cmp}
use Rattle.ddt_review.specs.Warnings.Warnings.{are_at_home, delegation_of}
use Rattle.ddt_review.proofs.WarningsLemmas.MarkLemmas.{marks_more}
use Rattle.ddt_review.proofs.WarningsLemmas.DelegationLemmas.{home_by}
use Rattle.ddt_review.proofs.warnings.delegations.delegations_of.Goals as goal

pub loop-zone-preserved : goal.loop-zone-preserved
loop-zone-preserved c =
    let r = c.args.tree.now.register.now in
    let zones = c.as_slice-zone-items.result.now in
    let i = c.loop-zone.zone-index in
    let x = c.zone-item.result in
    let has = contains pair_cmp c.in_ok-usual.usual in
    record {
      hosts = λ n. c.in_ok-mark_home.ensures.hosts n
          ∙ marks_more (λ (z : Zone). option_map_or (λ d. are_at_home r d && is_same_name n d.0) (delegation_of r z) false)
          zones i x c.loop-zone-test.true c.zone-item.is _ _ (c.loop-zone.invariant.hosts n)
          (home_by r n (λ (d : List ℕ × List ℕ). d.0) has c.in_ok-usual.ensures _ _ c.delegation_of.ensures);
      guests = λ n. c.in_ok-mark_home.ensures.guests n
          ∙ marks_more (λ (z : Zone). option_map_or (λ d. are_at_home r d && is_same_name n d.1) (delegation_of r z) false)
          zones i x c.loop-zone-test.true c.zone-item.is _ _ (c.loop-zone.invariant.guests n)
          (home_by r n (λ (d : List ℕ × List ℕ). d.1) has c.in_ok-usual.ensures _ _ c.delegation_of.ensures);
    }

pub returns-clause-hosts : goal.returns-clause-hosts
returns-clause-hosts c = λ n.
    let r = c.args.tree.now.register.now in
    c.loop-zone.invariant.hosts n
    ∙ ap (λ (zones : List Zone). list_any (λ (z : Zone). option_map_or (λ d. are_at_home r d && is_same_name n d.0) (delegation_of r z) false) zones)
    (take_all c.loop-zone.zone-index c.as_slice-zone-items.result.now c.loop-zone-test.false ∙ c.as_slice-zone-items.ensures)

pub returns-clause-guests : goal.returns-clause-guests
returns-clause-guests c = λ n.
    let r = c.args.tree.now.register.now in
    c.loop-zone.invariant.guests n
    ∙ ap (λ (zones : List Zone). list_any (λ (z : Zone). option_map_or (λ d. are_at_home r d && is_same_name n d.1) (delegation_of r z) false) zones)
    (take_all c.loop-zone.zone-index c.as_slice-zone-items.result.now c.loop-zone-test.false ∙ c.as_slice-zone-items.ensures)
