use Rattle.std.proofs.Common.{◌∙◌, ◌==◌, List, length, ap, subst, sym}
use Rattle.std.specs.Prelude.{◌&&◌}
use Rattle.std.specs.List.{filter}
use Rattle.std.proofs.lemmas.Bool.{and_parts, and_from, both_ways}
use Rattle.ddt_path.specs.Covers.{is_strictly_below}
use Rattle.ddt_path.specs.Matching.{longest_match}
use Rattle.ddt_plan.specs.declared.sides.Delegation.{Delegation}
use Rattle.ddt_plan.specs.declared.sides.SiteState.{SiteState}
use Rattle.ddt_plan.specs.Fast.{AreBelow, AreInOrder, delegations_of, states_of}
use Rattle.ddt_plan.proofs.SideLemmas.{delegation_prefix, state_prefix, one_delegation, one_state, best_moved, settled_at, divided_from, empty_is, is_empty}
use Rattle.ddt_plan.proofs.SliceLemmas.{below_all, none_below, none_left}
use Rattle.ddt_plan.proofs.sides.side_at.Goals as goal

pub items_below-zones_below-requires : goal.items_below-zones_below-requires
items_below-zones_below-requires c =
    subst (AreInOrder delegation_prefix) (sym c.as_slice-zones.ensures.value) c.requires.zones_in_order

pub items_below-sites_below-requires : goal.items_below-sites_below-requires
items_below-sites_below-requires c =
    subst (AreInOrder state_prefix) (sym c.as_slice-sites.ensures.value) c.requires.sites_in_order

pub returns-then-are_empty : goal.returns-then-are_empty
returns-then-are_empty c =
    let r = c.args.accepted.now in
    let at = c.args.at in
    let zones = c.items_below-zones_below.result.now in
    let sites = c.items_below-sites_below.result.now in
    let both = and_parts (length zones == 0) (length sites == 0) (sym c.are_empty.ensures ∙ c.if-are_empty.true) in
    let zones_are : AreBelow delegation_prefix (delegations_of r) at zones =
    subst (AreBelow delegation_prefix (delegations_of r) at) (sym (c.items_below-zones_below.ensures
    ∙ ap (filter (λ (z : Delegation). is_strictly_below z.prefix at)) c.as_slice-zones.ensures.value))
    (below_all delegation_prefix (delegations_of r) c.args.items.now.zones.items c.requires.zones
    c.requires.zones_in_order at) in
    let sites_are : AreBelow state_prefix (states_of r) at sites =
    subst (AreBelow state_prefix (states_of r) at) (sym (c.items_below-sites_below.ensures
    ∙ ap (filter (λ (s : SiteState). is_strictly_below s.prefix at)) c.as_slice-sites.ensures.value))
    (below_all state_prefix (states_of r) c.args.items.now.sites.items c.requires.sites
    c.requires.sites_in_order at) in
    settled_at r at c.inner.result c.assign.result c.inner.ensures.front
    (none_below delegation_prefix (delegations_of r) zones at zones_are (empty_is zones both.0))
    (none_below state_prefix (states_of r) sites at sites_are (empty_is sites both.1))
    c.assign.ensures

pub returns : goal.returns
returns c =
    let r = c.args.accepted.now in
    let at = c.args.at in
    let accepted = c.register-register.ensures.accepted in
    let zones = c.items_below-zones_below.result.now in
    let sites = c.items_below-sites_below.result.now in
    let zones_are : AreBelow delegation_prefix (delegations_of r) at zones =
    subst (AreBelow delegation_prefix (delegations_of r) at) (sym (c.items_below-zones_below.ensures
    ∙ ap (filter (λ (z : Delegation). is_strictly_below z.prefix at)) c.as_slice-zones.ensures.value))
    (below_all delegation_prefix (delegations_of r) c.args.items.now.zones.items c.requires.zones
    c.requires.zones_in_order at) in
    let sites_are : AreBelow state_prefix (states_of r) at sites =
    subst (AreBelow state_prefix (states_of r) at) (sym (c.items_below-sites_below.ensures
    ∙ ap (filter (λ (s : SiteState). is_strictly_below s.prefix at)) c.as_slice-sites.ensures.value))
    (below_all state_prefix (states_of r) c.args.items.now.sites.items c.requires.sites
    c.requires.sites_in_order at) in
    record {
      zone = c.copied.ensures ∙ c.longest_match.ensures
          ∙ ap (λ (zs : List Delegation). longest_match (λ z. z.prefix) zs at) c.as_slice-zones.ensures.value
          ∙ best_moved delegation_prefix (delegations_of r) (one_delegation r accepted)
          c.args.items.now.zones.items c.requires.zones at;
      site = c.copied-2.ensures ∙ c.longest_match-2.ensures
          ∙ ap (λ (ss : List SiteState). longest_match (λ s. s.prefix) ss at) c.as_slice-sites.ensures.value
          ∙ best_moved state_prefix (states_of r) (one_state r accepted)
          c.args.items.now.sites.items c.requires.sites at;
      zones = zones_are;
      sites = sites_are;
      divided = divided_from r at (λ none. both_ways ((length zones == 0) && (length sites == 0))
          (sym c.are_empty.ensures ∙ c.if-are_empty.false)
          (and_from (length zones == 0) (length sites == 0)
          (is_empty zones (none_left delegation_prefix (delegations_of r) zones at zones_are none.0))
          (is_empty sites (none_left state_prefix (states_of r) sites at sites_are none.1))));
    }
