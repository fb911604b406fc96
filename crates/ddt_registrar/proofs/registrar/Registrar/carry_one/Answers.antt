use Rattle.std.proofs.Common.{refl, sym, ap, arith}
use Rattle.ddt_node.specs.laws.Changed.{place_inside, none_is_set}
use Rattle.ddt_registrar.specs.Carried.{carried}
use Rattle.ddt_registrar.specs.State.{Site}
use Rattle.ddt_registrar.proofs.SiteLemmas.{set_is_changed, set_is_found}
use Rattle.ddt_registrar.proofs.registrar.Registrar.carry_one.Goals as goal

pub index_mut-requires : goal.index_mut-requires
index_mut-requires g c =
    let prefix = ap (λ (s : Site). s.prefix) c.before-2.view_is in
    let inside = place_inside (λ (s : Site). s.prefix) c.args.before.prefix _ _ c.self.invariant.of_sites c.in-Some.place.now (rw prefix at (sym c.in-Some.ensures)) in
    omega (arith, inside)

pub invariant_of-self : goal.invariant_of-self
invariant_of-self g c =
    let prefix = ap (λ (s : Site). s.prefix) c.before-2.view_is in
    set_is_found c.args.before.prefix (carried c.args.before) (λ s. refl) _ _ c.self.invariant c.in-Some.place.now c.index_mut.result.now c.carry_over.new.self
    (rw prefix at (sym c.in-Some.ensures)) c.index_mut.ensures.value c.carry_over.ensures

pub returns-in-Some : goal.returns-in-Some
returns-in-Some g c =
    let prefix = ap (λ (s : Site). s.prefix) c.before-2.view_is in
    rw (← c.self.view_is)
    (set_is_changed c.args.before.prefix (carried c.args.before) (λ s. refl) _ _ c.self.invariant c.in-Some.place.now c.index_mut.result.now c.carry_over.new.self
    (rw prefix at (sym c.in-Some.ensures)) c.index_mut.ensures.value c.carry_over.ensures)

pub returns-in-None : goal.returns-in-None
returns-in-None g c =
    let prefix = ap (λ (s : Site). s.prefix) c.before-2.view_is in
    rw (← c.self.view_is)
    (sym (none_is_set (λ (s : Site). s.prefix) c.args.before.prefix _ _ c.self.invariant.of_sites (carried c.args.before) (rw prefix at (sym c.in-None.ensures))))
