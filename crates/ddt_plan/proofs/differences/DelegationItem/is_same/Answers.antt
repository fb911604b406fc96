use Rattle.std.proofs.Common.{sym, ◌∙◌}
use Rattle.std.proofs.lemmas.Bool.{both_ways}
use Rattle.ddt_plan.proofs.SameLemmas.{same_delegation, delegation_itself}
use Rattle.ddt_plan.proofs.differences.DelegationItem.is_same.Goals as goal
use Rattle.ddt_plan.proofs.differences.DelegationItem.is_same.Goals.{then-eq, else-eq}

pub returns-then-has_same_role : goal.returns-then-has_same_role
returns-then-has_same_role c =
    let a = c.args.self.now in
    let b = c.args.other.now in
    elim c.if-eq.branch [
      | then-eq w ↦ (
        λ same. same_delegation a b (sym c.eq.ensures ∙ w.if-eq.true) (sym w.has_same_role.ensures ∙ sym w.value-is ∙ c.if-has_same_role.true) (sym c.are_same_servers.ensures ∙ same),
        λ e. c.are_same_servers.ensures ∙ (delegation_itself a b e).2,
      )
      | else-eq w ↦ absurd (both_ways c.eq.result w.if-eq.false (sym w.value-is ∙ c.if-has_same_role.true))
    ]
