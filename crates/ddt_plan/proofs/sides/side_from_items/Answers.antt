use Rattle.std.proofs.Common.{◌∙◌, ◌==◌, length, sym}
use Rattle.std.specs.Prelude.{◌&&◌}
use Rattle.std.proofs.lemmas.Bool.{and_parts, and_from, both_ways}
use Rattle.ddt_plan.specs.Fast.{delegations_of, states_of}
use Rattle.ddt_plan.proofs.SideLemmas.{delegation_prefix, state_prefix, settled, divided_from, empty_is, is_empty}
use Rattle.ddt_plan.proofs.SliceLemmas.{none_below, none_left}
use Rattle.ddt_plan.proofs.sides.side_from_items.Goals as goal

pub returns-then-are_empty : goal.returns-then-are_empty
returns-then-are_empty c =
    let r = c.args.accepted.now in
    let both = and_parts (length c.args.zones.now == 0) (length c.args.sites.now == 0) (sym c.are_empty.ensures ∙ c.if-are_empty.true) in
    settled r c.register-register.ensures.accepted c.args.at c.inner-inside.result c.args.zone c.args.site c.outcome_at.result c.inner-inside.ensures.front
    c.requires.zone c.requires.site
    (none_below delegation_prefix (delegations_of r) c.args.zones.now c.args.at c.requires.zones
    (empty_is c.args.zones.now both.0))
    (none_below state_prefix (states_of r) c.args.sites.now c.args.at c.requires.sites
    (empty_is c.args.sites.now both.1))
    c.requires.fronts c.outcome_at.ensures

pub returns : goal.returns
returns c =
    let r = c.args.accepted.now in
    record {
      zone = c.requires.zone;
      site = c.requires.site;
      zones = c.requires.zones;
      sites = c.requires.sites;
      divided = divided_from r c.args.at (λ none. both_ways ((length c.args.zones.now == 0) && (length c.args.sites.now == 0)) (sym c.are_empty.ensures ∙ c.if-are_empty.false)
          (and_from (length c.args.zones.now == 0) (length c.args.sites.now == 0)
          (is_empty c.args.zones.now (none_left delegation_prefix (delegations_of r) c.args.zones.now c.args.at c.requires.zones none.0))
          (is_empty c.args.sites.now (none_left state_prefix (states_of r) c.args.sites.now c.args.at c.requires.sites none.1))));
    }
