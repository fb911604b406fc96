use Rattle.std.proofs.Common.{Bool, subst, sym}
use Rattle.ddt_commands.specs.Commands.Lookup.{IsLookupTold}
use Rattle.ddt_commands.proofs.LookupLemmas.{told_outcome, told_unfound}
use Rattle.ddt_wire.specs.laws.Message.{messages_are_read}
use Rattle.ddt_commands.proofs.commands.lookup.look_up.Goals as goal

pub returns-in_ok-found_text-in-Ok-clause-told : goal.returns-in_ok-found_text-in-Ok-clause-told
returns-in_ok-found_text-in-Ok-clause-told c = λ r compiled sound.
    subst (λ (b : Bool). IsLookupTold r c.args.now c.args.x c.args.resolver.now b c.whole.result.text.items c.lookup.new.resolver) (sym c.whole.ensures.complete)
    (told_outcome messages_are_read r c.args.now c.args.x c.args.resolver.now c.lookup.new.resolver c.args.resolver.now.me c.in-Ok.lookup.outcome c.in-Ok.lookup.hops
    c.whole.result.text.items c.in-Ok.ensures.steps (c.in-Ok.ensures.headline r compiled.0 compiled sound) (c.in-Ok.ensures.hops r compiled.0 compiled sound)
    (rw c.whole.ensures.text c.in_ok-found_text-in-Ok.ensures))

pub returns-in_ok-end-in-Err-clause-told : goal.returns-in_ok-end-in-Err-clause-told
returns-in_ok-end-in-Err-clause-told c = λ r compiled sound.
    let words = c.in_ok-end-in-Err.ensures in
    told_unfound r c.args.now c.args.x c.args.resolver.now c.lookup.new.resolver c.in-Err.error _ c.unfound.result
    c.in-Err.ensures.failed (c.in-Err.ensures.errors r compiled.0 compiled sound) words.known words.words c.unfound.ensures.text c.unfound.ensures.complete
