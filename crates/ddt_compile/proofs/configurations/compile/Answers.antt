use Rattle.std.proofs.Common.{◌≡◌, ◌<◌, length, get_or, map, ap, ◌∙◌, arith}
use Rattle.std.specs.Prelude.{⊤}
use Rattle.std.proofs.lemmas.Grind.{common_steps}
use Rattle.ddt_register.specs.declared.register.Register.{Register}
use Rattle.ddt_register.specs.laws.Rising.{groups_rise}
use Rattle.ddt_check.specs.laws.Kept.{own_name}
use Rattle.ddt_config.specs.Table.{outline}
use Rattle.ddt_compile.specs.GroupConfig.{group_config, authorities_of}
use Rattle.ddt_compile.proofs.HonestLemmas.{honest_configs}
use Rattle.ddt_compile.proofs.ListLemmas.{left_others}
use Rattle.ddt_compile.proofs.RoomLemmas.{configs_have_room}
use Rattle.ddt_compile.proofs.configurations.compile.Goals as goal

pub loop-group-preserved : goal.loop-group-preserved
loop-group-preserved c =
    let r = c.args.accepted.now in
    let same = c.as_slice-group-items.ensures ∙ ap (λ (r : Register). r.groups) c.register.ensures.register in
    let i = c.loop-group.group-index in
    let g = c.group-item.result in
    let lt : i < length r.groups = rw same at c.loop-group-test.true in
    let is : g ≡ get_or r.groups i g = rw same at c.group-item.is in (
      grind (arith, common_steps, c.group_config.ensures.config),
      left_others r.groups i g lt is c.loop-group.authorities (λ h. h.name) (authorities_of r) (λ _. ⊤) c.loop-group.invariant.1 (λ h. h.row) (groups_rise r)
          (own_name r c.register.ensures.accepted) c.group_config.new.authorities c.group_config.ensures.others,
    )

pub returns : goal.returns
returns c =
    let r = c.args.accepted.now in
    let accepted = c.register.ensures.accepted in
    let each : map outline c.of.result ≡ map (group_config r) r.groups = grind (arith, common_steps) in
    record { each = each; honest = honest_configs r accepted c.of.result each; room = configs_have_room r accepted c.of.result each }
