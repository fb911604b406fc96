use Rattle.ddt_commands.proofs.LookupLemmas.{sound_start, told_text}
use Rattle.ddt_commands.proofs.commands.lookup.LookupOverRegister.lines.Goals as goal

pub returns-clause-text : goal.returns-clause-text
returns-clause-text c = λ call asks.
    let r = c.args.register.now in
    let start = sound_start c.a_step_keeps_a_resolver_sound.ensures.new r c.args.self.now.me c.args.self.now.seed c.roots.result c.new-resolver.result
    c.roots.ensures.group c.new-resolver.ensures in
    told_text call r c.deref.result.now c.args.self.now.me c.args.self.now.seed c.roots.result c.new-resolver.result _ _
    (rw c.deref.ensures.value (rw c.in-Some.is at asks)) c.roots.ensures.group c.new-resolver.ensures
    (c.in_ok-look_up_each.ensures r c.in_ok-servers.ensures.compiled start)
