use Rattle.std.proofs.Common.{not, false, ap, ◌∙◌}
use Rattle.std.specs.Prelude.{is_some, Option}
use Rattle.std.specs.Option.{option_map_or}
use Rattle.ddt_register.specs.declared.group.Group.{Group}
use Rattle.ddt_check.specs.Zones.{is_same_role}
use Rattle.ddt_check.specs.Rules.{is_of_unknown_group, is_of_other_role}
use Rattle.ddt_check.proofs.EntryKinds.{zone_row}
use Rattle.ddt_check.proofs.LeastLemmas.{passes_at, least_if, least_of_all}
use Rattle.ddt_check.proofs.rules.zones.of_wrong_groups.Goals as goal

pub loop-z-preserved : goal.loop-z-preserved
loop-z-preserved c =
    let zones = c.args.zones.now in
    let i = c.loop-z.z-index in
    let z = c.z-item.result in
    let found = c.loop-z.found in
    record {
      unknown = λ r grouped.
          least_if zone_row (is_of_unknown_group r) zones i z found.unknown c.lower_if-found.result
          c.is_unknown.result c.loop-z-test.true c.z-item.is
          (c.is_unknown.ensures
          ∙ ap (λ (o : Option Group). not (is_some o)) (c.group_named-group.ensures r grouped))
          c.lower_if-found.ensures (c.loop-z.invariant.unknown r grouped);
      role = λ r grouped.
          least_if zone_row (is_of_other_role r) zones i z found.role c.lower_if-found-in-loop-z.result
          c.is_of_other_role.result c.loop-z-test.true c.z-item.is
          (c.is_of_other_role.ensures
          ∙ ap (λ (o : Option Group). option_map_or (λ (g : Group). not (is_same_role g.kind z.kind)) o false)
          (c.group_named-group.ensures r grouped))
          c.lower_if-found-in-loop-z.ensures (c.loop-z.invariant.role r grouped);
    }

pub returns-clause-unknown : goal.returns-clause-unknown
returns-clause-unknown c = λ r moved grouped.
    least_of_all (passes_at zone_row (is_of_unknown_group r)) r.zones c.args.zones.now c.loop-z.z-index c.loop-z.found.unknown
    moved c.loop-z-test.false (c.loop-z.invariant.unknown r grouped)

pub returns-clause-role : goal.returns-clause-role
returns-clause-role c = λ r moved grouped.
    least_of_all (passes_at zone_row (is_of_other_role r)) r.zones c.args.zones.now c.loop-z.z-index c.loop-z.found.role
    moved c.loop-z-test.false (c.loop-z.invariant.role r grouped)
