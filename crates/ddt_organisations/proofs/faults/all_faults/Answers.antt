use Rattle.std.proofs.Common.{List, [], ◌∷◌, ◌++◌, sym, ap, ◌∙◌}
use Rattle.ddt_organisations.specs.declared.faults.TreeFault.{TreeFault}
use Rattle.ddt_organisations.specs.declared.faults.TreeFault.TheVariants.{RootNotRun}
use Rattle.ddt_organisations.proofs.ToldLemmas.{told_root, told_nothing, told_on, told_all, number_at}
use Rattle.ddt_organisations.proofs.faults.all_faults.Goals as goal
use Rattle.ddt_organisations.proofs.faults.all_faults.Goals.{then-not-first_runs_root+in_ok-push, else-not-first_runs_root}

pub loop-number-init : goal.loop-number-init
loop-number-init c =
    elim c.if-not-first_runs_root.branch [
      | then-not-first_runs_root+in_ok-push w ↦
          told_root c.args.all.now c.if-not-first_runs_root.faults.items
          (sym c.first_runs_root.ensures ∙ w.if-not-first_runs_root.true)
          (ap (λ v. v.items) w.faults-is ∙ w.in_ok-push.ensures.items ∙ ap (λ (l : List TreeFault). l ++ RootNotRun ∷ []) c.new-faults.ensures.items)
      | else-not-first_runs_root w ↦
          told_nothing c.args.all.now c.if-not-first_runs_root.faults.items
          (sym c.first_runs_root.ensures ∙ w.if-not-first_runs_root.false) (ap (λ v. v.items) w.faults-is ∙ c.new-faults.ensures.items)
    ]

pub push_faults-requires : goal.push_faults-requires
push_faults-requires c = record {
  number = number_at c.args.all.now c.loop-number.number c.index-all-number.result c.loop-number-test.true
      c.index-all-number.is;
  runners = c.in_ok-runners.ensures;
}

pub loop-number-preserved : goal.loop-number-preserved
loop-number-preserved c =
    let all = c.args.all.now in
    let o = c.index-all-number.result in
    told_on all c.loop-number.number o
    (number_at all c.loop-number.number o c.loop-number-test.true c.index-all-number.is)
    c.loop-number.faults.items c.push_faults.new.faults.items c.loop-number.invariant
    c.in_ok-push_faults.ensures.more c.in_ok-push_faults.ensures.told

pub returns : goal.returns
returns c = told_all c.args.all.now c.loop-number.number c.loop-number.faults.items c.loop-number-test.false
    c.loop-number.invariant
