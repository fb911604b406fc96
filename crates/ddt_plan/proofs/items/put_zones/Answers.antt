use Rattle.std.proofs.Common.{◌≡◌, ◌∙◌, ℕ, List, refl, ap, take}
use Rattle.std.specs.Ordering.{nat_cmp}
use Rattle.std.specs.Cmp.Lexicographic.{slice_cmp}
use Rattle.std.specs.BTreeMap.{get}
use Rattle.std.proofs.lemmas.List.{take_all}
use Rattle.ddt_register.specs.declared.zone.Zone.{Zone}
use Rattle.ddt_register.specs.declared.register.Register.{Register}
use Rattle.ddt_plan.specs.declared.items.ServingGroup.{ServingGroup}
use Rattle.ddt_plan.specs.Tables.{put_at}
use Rattle.ddt_plan.proofs.TableLemmas.{value_in, put_row}
use Rattle.ddt_plan.proofs.items.put_zones.Goals as goal

pub loop-zone-init : goal.loop-zone-init
loop-zone-init c = λ k. refl

pub loop-zone-preserved : goal.loop-zone-preserved
loop-zone-preserved c =
    put_row (λ (z : Zone). z.prefix) (λ (z : Zone). let h : ServingGroup = record { kind = z.kind; group = z.group } in h) c.args.which
    c.as_slice-zone-items.result.now c.loop-zone.zone-index c.zone-item.result c.loop-zone-test.true c.zone-item.is
    c.args.table c.loop-zone.all c.put.new.table c.loop-zone.invariant
    _ refl
    (c.in_ok-put.ensures).0 (c.in_ok-put.ensures).1 (c.in_ok-put.ensures).2

pub returns : goal.returns
returns c = λ k.
    let key : Zone → List ℕ = λ z. z.prefix in
    let value : Zone → ServingGroup = λ z. record { kind = z.kind; group = z.group } in
    let rows : take c.loop-zone.zone-index c.as_slice-zone-items.result.now ≡ c.args.accepted.now.zones =
    take_all c.loop-zone.zone-index c.as_slice-zone-items.result.now c.loop-zone-test.false
    ∙ c.as_slice-zone-items.ensures ∙ ap (λ (r : Register). r.zones) c.register.ensures.register in
    c.loop-zone.invariant k
    ∙ ap (λ (zs : List Zone). put_at c.args.which (get (slice_cmp nat_cmp) c.args.table k) (value_in key value zs k)) rows
