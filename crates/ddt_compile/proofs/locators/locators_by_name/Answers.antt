use Rattle.std.proofs.Common.{sym, ap, ◌∙◌}
use Rattle.ddt_path.specs.laws.Member.{in_at}
use Rattle.ddt_register.specs.declared.register.Register.{Register}
use Rattle.ddt_check.specs.laws.Kept.{server_set}
use Rattle.ddt_check.specs.laws.ServersByName.{name_put, name_kept}
use Rattle.ddt_compile.proofs.locators.locators_by_name.Goals as goal
use Rattle.ddt_compile.proofs.locators.locators_by_name.Goals.{then-not-contains_key+in_ok-insert, else-not-contains_key}

pub of_few-requires : goal.of_few-requires
of_few-requires c =
    let r = c.args.accepted.now in
    let g = c.group-item.result in
    let same = c.as_slice-group-items.ensures ∙ ap (λ (r : Register). r.groups) c.register.ensures.register in
    rw c.as_slice.ensures (server_set r c.register.ensures.accepted g
    (in_at r.groups c.loop-group.group-index g (rw same at c.loop-group-test.true) (rw same at c.group-item.is))).0.1

pub loop-group-preserved : goal.loop-group-preserved
loop-group-preserved c = λ name.
    let groups = c.as_slice-group-items.result.now in
    let i = c.loop-group.group-index in
    let g = c.group-item.result in
    elim c.if-not-contains_key.branch [
      | then-not-contains_key+in_ok-insert w ↦
          rw w.sets-is
          (name_put groups i g c.loop-group-test.true c.group-item.is c.loop-group.sets w.insert.new.self c.loop-group.invariant w.of_few.result
          (w.of_few.ensures ∙ w.as_slice.ensures) (sym c.contains_key.ensures ∙ w.if-not-contains_key.true) w.in_ok-insert.ensures.updates name)
      | else-not-contains_key w ↦
          rw w.sets-is (name_kept groups i g c.loop-group-test.true c.group-item.is c.loop-group.sets c.loop-group.sets c.loop-group.invariant
          (sym c.contains_key.ensures ∙ w.if-not-contains_key.false) name)
    ]
