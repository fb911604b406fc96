use Rattle.std.proofs.Common.{refl}
use Rattle.ddt_sim.specs.World.{wanting, untold}
use Rattle.ddt_sim.proofs.RunLemmas.{called_by, resolved_by, left_by}
use Rattle.ddt_sim.proofs.schedule_run.resolve.Goals as goal

pub returns-in_err-step-clause-stopped : goal.returns-in_err-step-clause-stopped
returns-in_err-step-clause-stopped g c =
    left_by c.from_residual.result
    (wanting (record { call = _; calls = called_by c.requires c.as_slice.ensures.value c.input_of-input.ensures; wants = c.in_err-step.ensures.wanted; goes_on = c.in_err-step.ensures.unchanged }))

pub returns-in_err-send-clause-stopped : goal.returns-in_err-send-clause-stopped
returns-in_err-send-clause-stopped g c =
    left_by c.from_residual-in_err-send.result
    (untold c.of-event.result _ (resolved_by c.requires c.as_slice.ensures.value c.input_of-input.ensures c.in_ok-step.ensures.step c.of-event.ensures) refl)

pub returns-clause-step : goal.returns-clause-step
returns-clause-step g c = rw (c.in_ok-send.ensures, c.me-me.ensures) (resolved_by c.requires c.as_slice.ensures.value c.input_of-input.ensures c.in_ok-step.ensures.step c.of-event.ensures)
