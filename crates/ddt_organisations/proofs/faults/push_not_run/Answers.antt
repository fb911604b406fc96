use Rattle.std.proofs.Common.{◌≡◌, ℕ, List, ◌++◌, length, map, append-nil, sym, ap, ◌∙◌, rules}
use Rattle.std.specs.Prelude.{◌==◌}
use Rattle.std.specs.List.{filter}
use Rattle.std.specs.Ordering.{nat_cmp}
use Rattle.std.specs.Cmp.Lexicographic.{slice_cmp}
use Rattle.std.proofs.lemmas.List.{take_all}
use Rattle.ddt_compile.specs.Lists.{list_at}
use Rattle.ddt_register.specs.declared.zone.Zone.{Zone}
use Rattle.ddt_organisations.specs.Faults.{nobody_at}
use Rattle.ddt_organisations.proofs.ToldLemmas.{told_more, untold_more}
use Rattle.ddt_organisations.proofs.faults.push_not_run.Goals as goal
use Rattle.ddt_organisations.proofs.faults.push_not_run.Goals.{then-is_empty+in_ok-push, else-is_empty}

pub loop-zone-init : goal.loop-zone-init
loop-zone-init c = sym (append-nil c.args.faults.now.items)

pub loop-zone-preserved : goal.loop-zone-preserved
loop-zone-preserved c =
    let test = λ (y : Zone). length (list_at (slice_cmp nat_cmp) c.args.runners.now y.group) == 0 in
    let items = c.as_slice-zone-items.result.now in
    let i = c.loop-zone.zone-index in
    let z = c.zone-item.result in
    let first = c.args.faults.now.items in
    let old = c.loop-zone.faults.items in
    let is : c.is_empty.result ≡ test z =
    c.is_empty.ensures ∙ ap (λ (numbers : List ℕ). length numbers == 0) c.numbers_at.ensures in
    elim c.if-is_empty.branch [
      | then-is_empty+in_ok-push w ↦
          told_more test items i z c.loop-zone-test.true c.zone-item.is (nobody_at c.args.number) first
          c.if-is_empty.faults.items old c.loop-zone.invariant (sym is ∙ w.if-is_empty.true)
          (let pushed = ap (λ v. v.items) w.faults-is ∙ w.in_ok-push.ensures.items in search rules)
      | else-is_empty w ↦
          ap (λ v. v.items) w.faults-is
          ∙ untold_more test items i z c.loop-zone-test.true c.zone-item.is (nobody_at c.args.number) first old
          c.loop-zone.invariant (sym is ∙ w.if-is_empty.false)
    ]

pub returns : goal.returns
returns c =
    let test = λ (y : Zone). length (list_at (slice_cmp nat_cmp) c.args.runners.now y.group) == 0 in
    c.loop-zone.invariant
    ∙ ap (λ (zones : List Zone). c.args.faults.now.items ++ map (nobody_at c.args.number) (filter test zones))
    (take_all c.loop-zone.zone-index c.as_slice-zone-items.result.now c.loop-zone-test.false ∙ c.as_slice-zone-items.ensures.value)
