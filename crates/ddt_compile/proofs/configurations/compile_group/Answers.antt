use Rattle.std.proofs.Common.{List, Some, ◌≡◌, sym, subst}
use Rattle.ddt_path.specs.Names.{is_same_name}
use Rattle.ddt_path.specs.laws.Member.{IsIn, found_in, found_passes, contained}
use Rattle.ddt_register.specs.declared.group.Group.{Group}
use Rattle.ddt_register.specs.declared.register.Register.{Register}
use Rattle.ddt_check.specs.Zones.{group_named}
use Rattle.ddt_compile.specs.laws.Statements.{IsHonestConfig, HasRoom}
use Rattle.ddt_compile.proofs.HonestLemmas.{honest_at}
use Rattle.ddt_compile.proofs.RoomLemmas.{group_has_room}
use Rattle.ddt_compile.proofs.configurations.compile_group.Goals as goal

found_here : (r : Register) (name : List _) (g : Group) → Some g ≡ group_named r name → IsIn g r.groups
found_here r name g found = found_in (λ (h : Group). is_same_name h.name name) r.groups g (sym found)

pub group_config-config-requires-clause-group : goal.group_config-config-requires-clause-group
group_config-config-requires-clause-group c =
    let r = c.args.accepted.now in
    contained r.groups c.in-Some.group.now (found_here r c.args.name c.in-Some.group.now c.in-Some.ensures.group)

pub group_config-config-requires-clause-own : goal.group_config-config-requires-clause-own
group_config-config-requires-clause-own c =
    let g = c.in-Some.group.now in
    c.in_ok-authorities-in-Some.ensures g
    (found_passes (λ (h : Group). is_same_name h.name c.args.name) c.args.accepted.now.groups g (sym c.in-Some.ensures.group))

pub returns-in_ok-authorities-in-Some-clause-honest : goal.returns-in_ok-authorities-in-Some-clause-honest
returns-in_ok-authorities-in-Some-clause-honest c =
    let r = c.args.accepted.now in
    let g = c.in-Some.group.now in
    subst (IsHonestConfig r) (sym c.group_config-config.ensures.config)
    (λ l x lists. honest_at r c.in-Some.ensures.accepted g l x (found_here r c.args.name g c.in-Some.ensures.group) lists)

pub returns-in_ok-authorities-in-Some-clause-room : goal.returns-in_ok-authorities-in-Some-clause-room
returns-in_ok-authorities-in-Some-clause-room c =
    let r = c.args.accepted.now in
    let g = c.in-Some.group.now in
    subst HasRoom (sym c.group_config-config.ensures.config)
    (group_has_room r c.in-Some.ensures.accepted g (found_here r c.args.name g c.in-Some.ensures.group))
