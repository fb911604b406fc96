use Rattle.std.proofs.Common.{◌≡◌, ◌∙◌, ℕ, List, refl, ap, take}
use Rattle.std.specs.Ordering.{nat_cmp}
use Rattle.std.specs.Cmp.Lexicographic.{slice_cmp}
use Rattle.std.specs.BTreeMap.{get}
use Rattle.std.proofs.lemmas.List.{take_all}
use Rattle.ddt_path.specs.declared.locator.Locator.{Locator}
use Rattle.ddt_path.specs.laws.Member.{in_at}
use Rattle.ddt_check.specs.laws.Kept.{server_set}
use Rattle.ddt_register.specs.declared.group.Group.{Group}
use Rattle.ddt_register.specs.declared.register.Register.{Register}
use Rattle.ddt_plan.specs.declared.items.GroupServers.{GroupServers}
use Rattle.ddt_plan.specs.Tables.{put_at}
use Rattle.ddt_plan.proofs.TableLemmas.{value_in, put_row}
use Rattle.ddt_plan.proofs.items.put_groups.Goals as goal

pub of_few-requires : goal.of_few-requires
of_few-requires c =
    let r = c.args.accepted.now in
    let g = c.group-item.result in
    let same = c.as_slice-group-items.ensures ∙ ap (λ (r : Register). r.groups) c.register.ensures.register in
    rw c.as_slice.ensures (server_set r c.register.ensures.accepted g
    (in_at r.groups c.loop-group.group-index g (rw same at c.loop-group-test.true) (rw same at c.group-item.is))).0.1

pub loop-group-init : goal.loop-group-init
loop-group-init c = λ k. refl

pub loop-group-preserved : goal.loop-group-preserved
loop-group-preserved c =
    put_row (λ (g : Group). g.name) (λ (g : Group). let h : GroupServers = record { kind = g.kind; locators = g.locators } in h) c.args.which
    c.as_slice-group-items.result.now c.loop-group.group-index c.group-item.result c.loop-group-test.true c.group-item.is
    c.args.table c.loop-group.all c.put.new.table c.loop-group.invariant
    _ (ap (λ (ls : List Locator). let h : GroupServers = record { kind = c.group-item.result.kind; locators = ls } in h) (c.of_few.ensures ∙ c.as_slice.ensures))
    (c.in_ok-put.ensures).0 (c.in_ok-put.ensures).1 (c.in_ok-put.ensures).2

pub returns : goal.returns
returns c = λ k.
    let key : Group → List ℕ = λ g. g.name in
    let value : Group → GroupServers = λ g. record { kind = g.kind; locators = g.locators } in
    let rows : take c.loop-group.group-index c.as_slice-group-items.result.now ≡ c.args.accepted.now.groups =
    take_all c.loop-group.group-index c.as_slice-group-items.result.now c.loop-group-test.false
    ∙ c.as_slice-group-items.ensures ∙ ap (λ (r : Register). r.groups) c.register.ensures.register in
    c.loop-group.invariant k
    ∙ ap (λ (gs : List Group). put_at c.args.which (get (slice_cmp nat_cmp) c.args.table k) (value_in key value gs k)) rows
