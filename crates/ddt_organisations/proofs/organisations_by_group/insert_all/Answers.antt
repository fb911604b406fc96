use Rattle.std.proofs.Common.{ℕ, Bool, true, cond, ◌||◌, List, take, get_or, sym, ap, ◌∙◌}
use Rattle.std.specs.Prelude.{◌==◌}
use Rattle.std.specs.List.{list_any}
use Rattle.std.specs.Ordering.{nat_cmp}
use Rattle.std.specs.BTreeSet.{contains}
use Rattle.std.proofs.lemmas.List.{take_all}
use Rattle.std.proofs.lemmas.List.Folds.{list_any_more}
use Rattle.ddt_organisations.proofs.RunnerLemmas.{number_ties, or_false, or_more}
use Rattle.ddt_organisations.proofs.organisations_by_group.insert_all.Goals as goal

pub loop-number-init : goal.loop-number-init
loop-number-init c = λ n. or_false (contains nat_cmp c.args.found.now n)

pub loop-number-preserved : goal.loop-number-preserved
loop-number-preserved c = λ n.
    let numbers = c.args.numbers.now in
    let i = c.loop-number.number-index in
    let k = get_or numbers i 0 in
    let first = contains nat_cmp c.args.found.now n in
    c.in_ok-insert.ensures.updates.0 n
    ∙ ap (λ (b : Bool). cond b true (contains nat_cmp c.loop-number.found n)) (number_ties k n)
    ∙ ap (λ (b : Bool). cond (k == n) true b) (c.loop-number.invariant n)
    ∙ or_more first (list_any (λ (m : ℕ). m == n) (take i numbers)) (k == n)
    ∙ ap (λ (b : Bool). first || b) (sym (list_any_more (λ (m : ℕ). m == n) numbers i 0 c.loop-number-test.true))

pub returns : goal.returns
returns c = λ n.
    c.loop-number.invariant n
    ∙ ap (λ (numbers : List ℕ). contains nat_cmp c.args.found.now n || list_any (λ (m : ℕ). m == n) numbers)
    (take_all c.loop-number.number-index c.args.numbers.now c.loop-number-test.false)
