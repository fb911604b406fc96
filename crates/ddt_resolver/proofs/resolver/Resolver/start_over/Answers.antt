use Rattle.std.proofs.Common.{refl, sym, ap, ◌∙◌}
use Rattle.std.proofs.lemmas.Option.{none-some}
use Rattle.std.proofs.lemmas.Result.{IfOk-weaker, on_err_weaker}
use Rattle.ddt_resolver.specs.declared.results.Heard.TheVariants.{GaveUp}
use Rattle.ddt_resolver.specs.declared.results.Why.TheVariants.{NotAuthoritative as NobodyInCharge}
use Rattle.ddt_resolver.specs.Act.{sends, from_root, nobody}
use Rattle.ddt_resolver.proofs.HearLemmas.{may_start_over, forget_acts}
use Rattle.ddt_resolver.proofs.resolver.Resolver.start_over.Goals as goal

pub returns-in-Some-clause-act : goal.returns-in-Some-clause-act
returns-in-Some-clause-act g c = IfOk-weaker c.send_on.result _ _ (λ h.
    forget_acts c.requires.action (may_start_over _ _ (c.requires.heard.order.lookups _ _ c.requires.heard.is_pending).lookup c.in-Some.is)
    (rw (c.started_over-lookup.ensures, c.roots.ensures, ← c.self.view_is))) c.send_on.ensures.sent

pub returns-in-Some-clause-wanted : goal.returns-in-Some-clause-wanted
returns-in-Some-clause-wanted g c = on_err_weaker c.send_on.result
    (sends (from_root c.in-Some.prefix c.requires.action (may_start_over _ _ (c.requires.heard.order.lookups _ _ c.requires.heard.is_pending).lookup c.in-Some.is))) c.send_on.ensures.nonce

pub returns-in-None-clause-act : goal.returns-in-None-clause-act
returns-in-None-clause-act g c =
    nobody c.requires.action (λ p may. none-some p (sym c.in-None.is ∙ may.start)) (c.close.ensures c.args.taken.now.ticket (c.args.taken.now.lookup, c.requires.heard.is_pending, refl))
    (ap (λ z. GaveUp z NobodyInCharge) c.of.ensures)
