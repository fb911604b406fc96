use Rattle.std.proofs.Common.{◌≡◌, ◌∙◌, ap}
use Rattle.std.specs.Prelude.{is_some}
use Rattle.ddt_resolver.specs.Front.{asked_by}
use Rattle.ddt_resolver.specs.laws.Front.{asked_is, asked_in, asks_something}
use Rattle.ddt_resolver.proofs.itr_messages.Front.itr_request.Goals as goal

pub returns-in-Ok-clause-found : goal.returns-in-Ok-clause-found
returns-in-Ok-clause-found c = asked_in c.args.bytes.now c.in-Ok.request c.asked.result c.in-Ok.ensures.found c.asked.ensures

pub returns-in-Ok-clause-only : goal.returns-in-Ok-clause-only
returns-in-Ok-clause-only c q i =
    let same : c.in-Ok.request ≡ i.message = cc (c.in-Ok.is, c.read_request.ensures.only i.message i.spells) in
    c.asked.ensures ∙ ap asked_by same ∙ asked_is i.message q i.asks

pub returns-in-Ok-clause-there : goal.returns-in-Ok-clause-there
returns-in-Ok-clause-there c m s plain =
    let same : c.in-Ok.request ≡ m = cc (c.in-Ok.is, c.read_request.ensures.only m s) in
    ap is_some (c.asked.ensures ∙ ap asked_by same) ∙ asks_something c.args.bytes.now m s plain

pub returns-in-Err-clause-only : goal.returns-in-Err-clause-only
returns-in-Err-clause-only c q i = cc (c.in-Err.is, c.read_request.ensures.only i.message i.spells)

pub returns-in-Err-clause-there : goal.returns-in-Err-clause-there
returns-in-Err-clause-there c m s plain = cc (c.in-Err.is, c.read_request.ensures.only m s)
