use Rattle.std.proofs.Common.{ℕ, List, Option, refl, sym, ap, subst, ◌∙◌, arith}
use Rattle.ddt_path.specs.declared.locator.Locator.{Locator}
use Rattle.ddt_node.specs.Etrs.{with_etrs}
use Rattle.ddt_node.specs.laws.Changed.{place_inside, none_is_set}
use Rattle.ddt_registrar.specs.Prepared.{HasRoom, site_changed}
use Rattle.ddt_registrar.specs.Sender.{sender_of}
use Rattle.ddt_registrar.specs.State.{Site}
use Rattle.ddt_registrar.specs.Taking.{etrs_in_force, in_force}
use Rattle.ddt_registrar.proofs.SiteLemmas.{found_there, set_is_changed, set_is_found, set_is_followed}
use Rattle.ddt_registrar.proofs.registrar.Registrar.change_one.Goals as goal

pub index_mut-site-requires : goal.index_mut-site-requires
index_mut-site-requires g c =
    let inside = place_inside (λ (s : Site). s.prefix) c.args.change.prefix _ _ c.self.invariant.of_sites c.in-Some.place.now (sym c.in-Some.ensures) in
    omega (arith, inside)

pub change-requires : goal.change-requires
change-requires g c =
    let x : Site = c.index_mut-site.result.now in
    let found = found_there c.args.change.prefix _ _ c.self.invariant c.in-Some.place.now x (sym c.in-Some.ensures) c.index_mut-site.ensures.value in
    subst (λ (site : Option Site). HasRoom site 0 c.args.change) found (rw (← c.self.view_is) at c.requires)

pub invariant_of-self : goal.invariant_of-self
invariant_of-self g c =
    let who = sender_of c.args.arrival.now.message.now.id c.args.arrival.now.from in
    let after = site_changed c.args.arrival.now.message.now who c.args.change in
    set_is_found c.args.change.prefix after (λ s. refl) _ _ c.self.invariant c.in-Some.place.now c.index_mut-site.result.now c.change.new.site
    (sym c.in-Some.ensures) c.index_mut-site.ensures.value c.change.ensures

pub returns-in-Some-clause-changed : goal.returns-in-Some-clause-changed
returns-in-Some-clause-changed g c =
    let who = sender_of c.args.arrival.now.message.now.id c.args.arrival.now.from in
    let after = site_changed c.args.arrival.now.message.now who c.args.change in
    rw (← c.self.view_is)
    (set_is_changed c.args.change.prefix after (λ s. refl) _ _ c.self.invariant c.in-Some.place.now c.index_mut-site.result.now c.change.new.site
    (sym c.in-Some.ensures) c.index_mut-site.ensures.value c.change.ensures)

pub returns-in-Some-clause-follows : goal.returns-in-Some-clause-follows
returns-in-Some-clause-follows g c =
    let who = sender_of c.args.arrival.now.message.now.id c.args.arrival.now.from in
    let after = site_changed c.args.arrival.now.message.now who c.args.change in
    let site : Site = c.change.new.site in λ o before.
    c.set_etrs.ensures
    ∙ ap (λ (q : List ℕ). with_etrs q c.etrs_in_force.result c.args.server.now) (ap (λ (s : Site). s.prefix) c.site.view_is)
    ∙ ap (λ (e : List Locator). with_etrs site.prefix e c.args.server.now) c.etrs_in_force.ensures
    ∙ ap (with_etrs site.prefix (etrs_in_force site)) before
    ∙ ap (λ (ss : List Site). with_etrs site.prefix (etrs_in_force site) (in_force ss o)) (sym c.self.view_is)
    ∙ sym (set_is_followed c.args.change.prefix after (λ s. refl) _ _ c.self.invariant c.in-Some.place.now c.index_mut-site.result.now site
    (sym c.in-Some.ensures) c.index_mut-site.ensures.value c.change.ensures o)

pub returns-in-None-clause-changed : goal.returns-in-None-clause-changed
returns-in-None-clause-changed g c =
    let who = sender_of c.args.arrival.now.message.now.id c.args.arrival.now.from in
    let after = site_changed c.args.arrival.now.message.now who c.args.change in
    rw (← c.self.view_is)
    (sym (none_is_set (λ (s : Site). s.prefix) c.args.change.prefix _ _ c.self.invariant.of_sites after (sym c.in-None.ensures)))
