use Rattle.std.proofs.Common.{sym, refl, subst}
use Rattle.std.proofs.lemmas.Result.{IfOk-weaker}
use Rattle.ddt_register.specs.declared.register.Register.{Register}
use Rattle.ddt_sim.specs.World.{world, Serves, not_sent}
use Rattle.ddt_sim.proofs.RunLemmas.{hears_call, none_at, serves_at, still_set, set_others}
use Rattle.ddt_sim.proofs.schedule_run.deliver.Goals as goal

pub resolve-requires : goal.resolve-requires
resolve-requires g c =
    let scene = c.args.scene.now in
    hears_call (world scene.moment scene.member scene.sent.items c.args.resolver.now) c.args.number (cc (c.as_slice.ensures.value, c.is_reply.ensures, c.in-Some-true.is, c.in-Some-true.field-0-test))

pub returns-in-Some-false-clause-step : goal.returns-in-Some-false-clause-step
returns-in-Some-false-clause-step g c =
    let scene = c.args.scene.now in
    let own = c.index-servers-scene in
    IfOk-weaker c.serve.result _ _ (λ event h.
    serves_at g.S.Servers.honest g.S.Servers.silent c.args.servers.now scene.member own.result c.requires own.is scene.moment c.args.number scene.sent.items c.serve.new.sent.items c.args.resolver.now event
    (subst (λ z. Serves (g.S.Servers.honest z) (g.S.Servers.silent z) scene.sent.items c.args.number c.serve.new.sent.items event) (sym own.is) h)) c.serve.ensures.serves

pub returns-in-Some-false-clause-stay : goal.returns-in-Some-false-clause-stay
returns-in-Some-false-clause-stay g c =
    let own = c.index-servers-scene in
    still_set g.S.Servers.honest c.args.servers.now c.args.scene.now.member own.result c.serve.new.servers c.requires own.is
    (subst (λ z. (r : Register) → g.S.Servers.honest z r → g.S.Servers.honest c.serve.new.servers r) (sym own.is) c.serve.ensures.stay)

pub returns-in-Some-false-clause-stay_silent : goal.returns-in-Some-false-clause-stay_silent
returns-in-Some-false-clause-stay_silent g c =
    let own = c.index-servers-scene in
    still_set g.S.Servers.silent c.args.servers.now c.args.scene.now.member own.result c.serve.new.servers c.requires own.is
    (subst (λ z. (r : Register) → g.S.Servers.silent z r → g.S.Servers.silent c.serve.new.servers r) (sym own.is) c.serve.ensures.stay_silent)

pub returns-in-Some-false-clause-others : goal.returns-in-Some-false-clause-others
returns-in-Some-false-clause-others g c = set_others c.args.servers.now c.args.scene.now.member c.serve.new.servers

pub returns-in-None-clause-step : goal.returns-in-None-clause-step
returns-in-None-clause-step g c = not_sent c.args.number refl (none_at c.args.scene.now.sent.items c.args.number (cc (c.as_slice.ensures.value, c.is_reply.ensures, c.in-None.is))) refl refl
