use Rattle.std.proofs.Common.{◌≡◌, ◌∷◌, Err, List, ap, refl, rules, subst, sym, ◌∙◌}
use Rattle.std.specs.List.{list_all}
use Rattle.ddt_path.specs.declared.locator.Locator.{Locator}
use Rattle.ddt_commands.specs.Commands.Loop.{end_lines, is_outcome, outside, unbound}
use Rattle.ddt_commands.specs.Loopback.{first_outside}
use Rattle.ddt_commands.specs.Sockets.{AreBound, Binds, IsUnbound}
use Rattle.ddt_commands.proofs.LoopLemmas.{is_run}
use Rattle.ddt_commands.proofs.commands.loops.task.loop_over.Goals as goal

pub returns-in_err-are_on_loopback-clause-refused : goal.returns-in_err-are_on_loopback-clause-refused
returns-in_err-are_on_loopback-clause-refused g c = λ call asks.
    let e : c.from_residual-in_err-are_on_loopback.result ≡ Err c.in_err-are_on_loopback.field-0.0 = search rules in
    let are = c.deref.ensures.value ∙ c.in_ok-sockets.ensures in
    let why = c.in_err-are_on_loopback.ensures.outside in
    rw (e, why.1) (outside why.0 (refl, refl) (ap first_outside (sym are) ∙ why.2))

pub returns-in_err-bind_all-clause-refused : goal.returns-in_err-bind_all-clause-refused
returns-in_err-bind_all-clause-refused g c = λ call asks.
    let e : c.from_residual-in_err-bind_all.result ≡ Err c.in_err-bind_all.field-0.0 = search rules in
    let are = c.deref.ensures.value ∙ c.in_ok-sockets.ensures in
    let bound = c.deref-2.ensures.value ∙ c.in_ok-sockets.ensures in
    let why = c.in_err-bind_all.ensures.refused in
    rw e (unbound c.args.task why.0 why.1 asks (ap first_outside (sym are) ∙ c.in_ok-are_on_loopback.ensures.inside)
    (subst (λ (ls : List Locator). IsUnbound (Binds g.B.Fn c.args.bind.now) c.args.wires.now (c.args.task.me ∷ ls) why.0 why.1 c.bind_all.new.wires) bound why.2, refl) why.3)

pub returns-clause-text : goal.returns-clause-text
returns-clause-text g c = λ call asks.
    let are = c.deref.ensures.value ∙ c.in_ok-sockets.ensures in
    let bound = c.deref-2.ensures.value ∙ c.in_ok-sockets.ensures in
    let polled = c.deref-3.ensures.value ∙ c.in_ok-sockets.ensures in
    let ran = c.in_ok-ends.ensures in record {
      task = c.args.task;
      asks = asks;
      on_loopback = ap first_outside (sym are) ∙ c.in_ok-are_on_loopback.ensures.inside;
      ends = c.in_ok-ends.ends.items;
      come = (
        c.bind_all.new.wires,
        subst (λ (ls : List Locator). AreBound (Binds g.B.Fn c.args.bind.now) c.args.wires.now (c.args.task.me ∷ ls) c.bind_all.new.wires) bound c.in_ok-bind_all.ensures.bound,
        is_run c.a_step_keeps_a_resolver_sound.ensures.new c.args.register.now c.args.task c.roots.result c.new-resolver.result c.roots.ensures.group c.new-resolver.ensures
            c.in_ok-servers.servers c.in_ok-servers.ensures.compiled c.deref-3.result.now polled (g.W.Wires.calls c.bind_all.new.wires) (g.W.Wires.calls c.loop_turns.new.wires)
            (g.C.Clock.readings c.args.clock.now) (g.C.Clock.readings c.loop_turns.new.clock) c.in_ok-ends.ends.items c.loop_turns.new.resolver ran.answers ran.replies ran.unresolved ran.run,
      );
      lines = c.in_ok-end_lines.ensures ∙ ap (end_lines c.args.task.ids.now) c.deref-4.ensures.value;
      whole = c.are_outcomes.ensures ∙ ap (list_all is_outcome) c.deref-5.ensures.value;
    }
