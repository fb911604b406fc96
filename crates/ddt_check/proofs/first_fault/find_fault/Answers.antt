use Rattle.std.proofs.Common.{◌≡◌, false, inl, inr, subst, arith}
use Rattle.std.proofs.lemmas.Bool.{cases_lt}
use Rattle.ddt_check.specs.declared.fault.Rule.{Rule}
use Rattle.ddt_check.specs.Rules.{broken, rule_number}
use Rattle.ddt_check.specs.laws.RuleOrder.{up_to, same_at}
use Rattle.ddt_check.proofs.first_fault.find_fault.Goals as goal

pub returns-in-Some : goal.returns-in-Some
returns-in-Some c =
    let so_far = c.loop-rule.invariant in
    let place = c.loop-rule.rule-index in
    let f = c.in-Some.ensures (record { zones = c.zone_rows.ensures; groups = c.group_rows.ensures })
    (λ earlier n lt. so_far earlier n (up_to earlier place _ c.loop-rule-test.true lt)) in
    record {
      breaks = f.0;
      least_rule = λ earlier n lt. so_far earlier n (up_to earlier place _ c.loop-rule-test.true lt);
      least_row = f.1;
    }

pub loop-rule-preserved : goal.loop-rule-preserved
loop-rule-preserved c = λ earlier n le.
    let so_far = c.loop-rule.invariant in
    let place = c.loop-rule.rule-index in
    let f = c.in_default.ensures (record { zones = c.zone_rows.ensures; groups = c.group_rows.ensures })
    (λ earlier n lt. so_far earlier n (up_to earlier place _ c.loop-rule-test.true lt)) in
    elim (cases_lt place (rule_number earlier)) [
      | inl here ↦ subst (λ (rule : Rule). broken c.args.register.now rule n ≡ false)
          (same_at earlier place _ (omega arith)) (f n)
      | inr before ↦ so_far earlier n before
    ]
