use Rattle.std.proofs.Common.{◌+◌, ◌≤◌, length, ◌∙◌, arith}
use Rattle.ddt_deploy.proofs.LoopbackLemmas.MovedLemmas.{few_more, more_moved}
use Rattle.ddt_deploy.proofs.loopback.moved_register.moved_groups.Goals as goal

pub server_addresses-requires : goal.server_addresses-requires
server_addresses-requires c =
    few_more c.args.groups.now c.loop-group.group-index c.group-item.result c.loop-group-test.true c.group-item.is
    c.loop-group.first c.as_slice-count.result.now c.as_slice-count.ensures c.loop-group.invariant.0 c.requires

pub overflow_add-first : goal.overflow_add-first
overflow_add-first c =
    let few : c.loop-group.first + length c.as_slice-count.result.now ≤ 524280 =
    few_more c.args.groups.now c.loop-group.group-index c.group-item.result c.loop-group-test.true c.group-item.is
    c.loop-group.first c.as_slice-count.result.now c.as_slice-count.ensures c.loop-group.invariant.0 c.requires in
    omega arith

pub loop-group-preserved : goal.loop-group-preserved
loop-group-preserved c =
    let inv = c.loop-group.invariant in
    more_moved c.args.groups.now c.loop-group.group-index c.group-item.result c.loop-group-test.true c.group-item.is
    c.loop-group.moved.items c.push.new.self.items c.loop-group.first c.as_slice-count.result.now c.of.result
    c.as_slice-count.ensures (c.of.ensures ∙ c.in_ok-server_addresses.ensures) c.in_ok-push.ensures.items
    inv.0 inv.1 inv.2
