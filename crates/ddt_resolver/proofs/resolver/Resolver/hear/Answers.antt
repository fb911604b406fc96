use Rattle.std.proofs.Common.{refl}
use Rattle.std.proofs.lemmas.Result.{IfOk-weaker, on_err_weaker}
use Rattle.ddt_resolver.specs.Act.{ignored, taken}
use Rattle.ddt_resolver.proofs.BoundLemmas.{comes_nearer, goes_down}
use Rattle.ddt_resolver.proofs.resolver.Resolver.hear.Goals as goal

pub returns-in-Ok-clause-step : goal.returns-in-Ok-clause-step
returns-in-Ok-clause-step g c = IfOk-weaker c.act.result _ _ (λ h. taken c.in-Ok.taken.ticket c.in-Ok.taken.lookup c.in-Ok.taken.told c.in-Ok.ensures.taken) c.act.ensures.act

pub returns-in-Ok-clause-wanted : goal.returns-in-Ok-clause-wanted
returns-in-Ok-clause-wanted g c = on_err_weaker c.act.result (λ saves. record {
  ticket = c.in-Ok.taken.ticket;
  lookup = c.in-Ok.taken.lookup;
  told = c.in-Ok.taken.told;
  taken = c.in-Ok.ensures.taken;
  saves = saves;
}) c.act.ensures.wanted

pub returns-in-Ok-clause-nearer : goal.returns-in-Ok-clause-nearer
returns-in-Ok-clause-nearer g c = IfOk-weaker c.act.result _ _ (λ h. comes_nearer c.in_order.ensures c.in-Ok.ensures.taken) c.act.ensures.act

pub returns-in-Ok-clause-down : goal.returns-in-Ok-clause-down
returns-in-Ok-clause-down g c = IfOk-weaker c.act.result _ _ (λ h. goes_down c.in_order.ensures c.in-Ok.ensures.taken) c.act.ensures.act

pub returns-in-Err-clause-step : goal.returns-in-Err-clause-step
returns-in-Err-clause-step g c = ignored c.in-Err.why c.in-Err.ensures.refused refl refl
