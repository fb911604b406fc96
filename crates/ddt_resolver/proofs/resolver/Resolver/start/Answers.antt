use Rattle.std.proofs.Common.{sym, ◌∙◌, refl}
use Rattle.ddt_resolver.specs.AskStep.{cached}
use Rattle.ddt_resolver.specs.laws.Shape.{opening_lookup}
use Rattle.ddt_resolver.proofs.resolver.Resolver.start.Goals as goal

pub returns-in-Some-clause-step : goal.returns-in-Some-clause-step
returns-in-Some-clause-step g c = record {
  prefix = c.find-prefix.result.0;
  entry = c.find-prefix.result.1;
  found = c.find-prefix.ensures.found;
  start = cached c.in-Some.outcome (sym c.answer_of.ensures ∙ c.in-Some.is) c.find-prefix.ensures.unchanged refl;
}

pub open-requires-clause-lookup : goal.open-requires-clause-lookup
open-requires-clause-lookup g c =
    rw (c.opening.ensures, c.start_at.ensures)
    (opening_lookup _ c.in_order.ensures c.args.x c.host-identifier.ensures.passes _ _ c.find-prefix.ensures.found (sym c.answer_of.ensures ∙ c.in_default.is))
