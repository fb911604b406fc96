use Rattle.std.proofs.Common.{◌≡◌, true, [], List, sym, ap, subst, ◌∙◌}
use Rattle.ddt_config.specs.Shaped.{have_own_prefixes}
use Rattle.ddt_registrar.specs.State.{Site}
use Rattle.ddt_registrar.proofs.CarryLemmas.{carried_all, all_carried, no_items}
use Rattle.ddt_registrar.proofs.registrar.Registrar.carry_over.Goals as goal

pub returns : goal.returns
returns g c =
    let own = subst (λ (ss : List Site). have_own_prefixes (λ (s : Site). s.prefix) ss ≡ true) c.before-2.view_is c.before-2.invariant.own in
    let rest = c.loop-site.site-iterator.rest in
    let none : rest.items ≡ [] = no_items rest.items (sym rest.ok.0 ∙ c.in-None.ensures.steps.0) in
    ap (λ (left : List Site). carried_all left c.loop-site.self) (sym none) ∙ c.loop-site.invariant ∙ all_carried c.args.before c.args.self.now own
