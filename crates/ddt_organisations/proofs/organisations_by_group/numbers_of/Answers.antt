use Rattle.std.proofs.Common.{ℕ, Bool, ◌||◌, List, take, sym, ap, ◌∙◌}
use Rattle.std.specs.Prelude.{◌==◌}
use Rattle.std.specs.List.{list_any}
use Rattle.std.specs.Ordering.{nat_cmp}
use Rattle.std.specs.Cmp.Lexicographic.{slice_cmp}
use Rattle.std.specs.BTreeSet.{contains}
use Rattle.std.proofs.lemmas.List.{take_all}
use Rattle.std.proofs.lemmas.List.Folds.{list_any_more}
use Rattle.ddt_compile.specs.Lists.{list_at}
use Rattle.ddt_register.specs.declared.zone.Zone.{Zone}
use Rattle.ddt_organisations.proofs.organisations_by_group.numbers_of.Goals as goal

pub loop-zone-preserved : goal.loop-zone-preserved
loop-zone-preserved c = λ n.
    let zones = c.args.zones.now in
    let i = c.loop-zone.zone-index in
    let z = c.zone-item.result in
    let runs = λ (y : Zone). list_any (λ (k : ℕ). k == n) (list_at (slice_cmp nat_cmp) c.args.runners.now y.group) in
    c.in_ok-insert_all.ensures n
    ∙ ap (λ (numbers : List ℕ). contains nat_cmp c.loop-zone.found n || list_any (λ (k : ℕ). k == n) numbers) c.numbers_at.ensures
    ∙ ap (λ (b : Bool). b || runs z) (c.loop-zone.invariant n)
    ∙ ap (λ (y : Zone). list_any runs (take i zones) || runs y) c.zone-item.is
    ∙ sym (list_any_more runs zones i z c.loop-zone-test.true)

pub returns : goal.returns
returns c = λ n.
    let runs = λ (y : Zone). list_any (λ (k : ℕ). k == n) (list_at (slice_cmp nat_cmp) c.args.runners.now y.group) in
    c.loop-zone.invariant n ∙ ap (list_any runs) (take_all c.loop-zone.zone-index c.args.zones.now c.loop-zone-test.false)
