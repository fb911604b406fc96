use Rattle.std.proofs.Common.{refl, sym, ◌∙◌, arith}
use Rattle.std.proofs.lemmas.Option.{slice_get_read}
use Rattle.ddt_node.specs.laws.Changed.{place_inside}
use Rattle.ddt_registrar.specs.State.{Site}
use Rattle.ddt_registrar.proofs.SiteLemmas.{found_at, not_found}
use Rattle.ddt_registrar.proofs.registrar.Registrar.site.Goals as goal

pub index-requires : goal.index-requires
index-requires g c =
    let inside = place_inside (λ (s : Site). s.prefix) c.args.prefix _ _ c.self.invariant.of_sites c.in-Some.place.now (sym c.in-Some.ensures) in
    omega (arith, inside)

pub returns-in-Some : goal.returns-in-Some
returns-in-Some g c =
    let answer = sym c.in-Some.ensures in
    let inside = place_inside (λ (s : Site). s.prefix) c.args.prefix _ _ c.self.invariant.of_sites c.in-Some.place.now answer in
    rw (← c.self.view_is)
    (sym (slice_get_read c.self.inside.sites.items _ c.in-Some.place.now c.index.result.now refl inside c.index.ensures)
    ∙ sym (found_at (λ (s : Site). s.prefix) c.args.prefix _ _ c.self.invariant.of_sites c.in-Some.place.now answer))

pub returns-in-None : goal.returns-in-None
returns-in-None g c = rw (← c.self.view_is) (sym (not_found (λ (s : Site). s.prefix) c.args.prefix _ _ c.self.invariant.of_sites (sym c.in-None.ensures)))
