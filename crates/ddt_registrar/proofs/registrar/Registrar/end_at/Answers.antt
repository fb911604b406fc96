use Rattle.std.proofs.Common.{◌≡◌, ◌<◌, ℕ, List, length, refl, sym, ap, ◌∙◌}
use Rattle.std.specs.Prelude.{set}
use Rattle.std.proofs.lemmas.Option.{same_Some, slice_get_read}
use Rattle.ddt_path.specs.declared.locator.Locator.{Locator}
use Rattle.ddt_node.specs.Etrs.{with_etrs}
use Rattle.ddt_registrar.specs.State.{Site}
use Rattle.ddt_registrar.specs.Taking.{site_at, etrs_in_force, in_force}
use Rattle.ddt_registrar.proofs.SiteLemmas.{place_at, set_is_found, set_is_followed, still_in_force, set_as_it_is}
use Rattle.ddt_registrar.proofs.registrar.Registrar.end_at.Goals as goal

pub invariant_of-self : goal.invariant_of-self
invariant_of-self g c =
    let sites = c.self.inside.sites.items in
    let x : Site = c.index_mut-site.result.now in
    let inside : c.args.at < length sites = rw (← c.self.view_is) at c.requires in
    let there = slice_get_read sites _ c.args.at x refl inside c.index_mut-site.ensures.value in
    set_is_found x.prefix (site_at c.args.now) (λ s. refl) sites _ c.self.invariant c.args.at x c.end.new.self
    (place_at _ sites c.self.invariant c.args.at x there) c.index_mut-site.ensures.value c.end.ensures

pub returns-then-has_ended-clause-ended : goal.returns-then-has_ended-clause-ended
returns-then-has_ended-clause-ended g c = λ x' has.
    let sites = c.self.inside.sites.items in
    let x : Site = c.index_mut-site.result.now in
    let inside : c.args.at < length sites = rw (← c.self.view_is) at c.requires in
    let there = slice_get_read sites _ c.args.at x refl inside c.index_mut-site.ensures.value in
    let same : x ≡ x' = same_Some x x' (sym there ∙ rw (← c.self.view_is) at has) in
    rw (← c.self.view_is) (ap (set sites c.args.at) (c.end.ensures ∙ ap (site_at c.args.now) same))

pub returns-then-has_ended-clause-follows : goal.returns-then-has_ended-clause-follows
returns-then-has_ended-clause-follows g c = λ o before.
    let sites = c.self.inside.sites.items in
    let x : Site = c.index_mut-site.result.now in
    let site : Site = c.end.new.self in
    let inside : c.args.at < length sites = rw (← c.self.view_is) at c.requires in
    let there = slice_get_read sites _ c.args.at x refl inside c.index_mut-site.ensures.value in
    c.set_etrs.ensures
    ∙ ap (λ (q : List ℕ). with_etrs q c.etrs_in_force.result c.args.server.now) (ap (λ (s : Site). s.prefix) c.site.view_is)
    ∙ ap (λ (e : List Locator). with_etrs site.prefix e c.args.server.now) c.etrs_in_force.ensures
    ∙ ap (with_etrs site.prefix (etrs_in_force site)) before
    ∙ ap (λ (ss : List Site). with_etrs site.prefix (etrs_in_force site) (in_force ss o)) (sym c.self.view_is)
    ∙ sym (set_is_followed x.prefix (site_at c.args.now) (λ s. refl) sites _ c.self.invariant c.args.at x site
    (place_at _ sites c.self.invariant c.args.at x there) c.index_mut-site.ensures.value c.end.ensures o)

pub returns-else-has_ended-clause-ended : goal.returns-else-has_ended-clause-ended
returns-else-has_ended-clause-ended g c = λ x' has.
    let sites = c.self.inside.sites.items in
    let x : Site = c.index.result.now in
    let inside : c.args.at < length sites = rw (← c.self.view_is) at c.requires in
    let there = slice_get_read sites _ c.args.at x refl inside c.index.ensures in
    let same : x ≡ x' = same_Some x x' (sym there ∙ rw (← c.self.view_is) at has) in
    let stays : x' ≡ site_at c.args.now x' = rw (sym same) (still_in_force c.args.now x (sym c.has_ended.ensures ∙ c.if-has_ended.false)) in
    sym (ap (set c.args.self.now c.args.at) (sym stays) ∙ set_as_it_is c.args.self.now c.args.at x' has)
