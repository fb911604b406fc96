use Rattle.std.proofs.Common.{refl, sym, ◌∙◌}
use Rattle.std.proofs.lemmas.List.{take_all}
use Rattle.ddt_path.specs.declared.locator.Locator.TheVariants.{V4}
use Rattle.ddt_sim.specs.declared.schedule.Step.{Step}
use Rattle.ddt_sim.specs.declared.schedule.Step.TheVariants.{Ask}
use Rattle.ddt_sim.proofs.RunLemmas.{running_at_start, runs_on, stops_in, stops_after, others_stay, left_by}
use Rattle.ddt_sim.proofs.StatementLemmas.{stops_soundly, each_answer, each_reply, each_once, each_failure, each_no_reply}
use Rattle.ddt_sim.proofs.ReplacedLemmas.{each_since, each_of_late, each_reply_in_force, each_failure_in_force, each_no_reply_in_force, each_once_in_force}
use Rattle.ddt_sim.proofs.schedule_run.run.Goals as goal

-- the step that stands for one past the end
abbrev first_step : Step
first_step = Ask (record { iid = 0; address = V4 0 })

pub loop-step-init : goal.loop-step-init
loop-step-init g c = running_at_start c.args.servers.now c.requires c.args.resolver.now c.args.steps.now _ c.time.result _ c.new-events.ensures.items c.time.ensures c.new.ensures.items

pub returns-in_err-event-clause-stopped : goal.returns-in_err-event-clause-stopped
returns-in_err-event-clause-stopped g c = left_by c.from_residual.result (stops_in c.loop-step.invariant c.loop-step-test.true first_step c.in_err-event.ensures.stopped)

pub returns-in_err-push-clause-stopped : goal.returns-in_err-push-clause-stopped
returns-in_err-push-clause-stopped g c =
    left_by c.from_residual-in_err-push.result (stops_after
    (runs_on c.loop-step.invariant c.loop-step-test.true first_step c.in_ok-event.ensures.step refl c.take_step.ensures.within c.take_step.ensures.stay c.take_step.ensures.stay_silent c.take_step.ensures.others))

pub loop-step-preserved : goal.loop-step-preserved
loop-step-preserved g c =
    runs_on c.loop-step.invariant c.loop-step-test.true first_step c.in_ok-event.ensures.step c.in_ok-push.ensures.items c.take_step.ensures.within c.take_step.ensures.stay c.take_step.ensures.stay_silent c.take_step.ensures.others

pub returns-clause-run : goal.returns-clause-run
returns-clause-run g c =
    let w = c.loop-step.invariant in (
      w.past,
      record {
        last = _;
        history = w.history;
        steps_are = sym (take_all c.loop-step.step-index c.args.steps.now c.loop-step-test.false) ∙ w.steps_are;
        events_are = c.of.ensures ∙ w.events_are;
        sent_are = c.of-2.ensures;
        state_is = refl;
      },
    )

pub returns-in_err-event-clause-sound : goal.returns-in_err-event-clause-sound
returns-in_err-event-clause-sound g c = λ r honest keep starts. stops_soundly c.laws_of_runs.ensures _ _ c.in_order.ensures _ r honest keep starts _
    (stops_in c.loop-step.invariant c.loop-step-test.true first_step c.in_err-event.ensures.stopped)

pub returns-in_err-push-clause-sound : goal.returns-in_err-push-clause-sound
returns-in_err-push-clause-sound g c = λ r honest keep starts. stops_soundly c.laws_of_runs.ensures _ _ c.in_order.ensures _ r honest keep starts _ (stops_after
    (runs_on c.loop-step.invariant c.loop-step-test.true first_step c.in_ok-event.ensures.step refl c.take_step.ensures.within c.take_step.ensures.stay c.take_step.ensures.stay_silent c.take_step.ensures.others))

pub returns-clause-sound : goal.returns-clause-sound
returns-clause-sound g c = λ r honest keep starts. stops_soundly c.laws_of_runs.ensures _ _ c.in_order.ensures _ r honest keep starts _ (stops_after c.loop-step.invariant)

pub returns-clause-answers : goal.returns-clause-answers
returns-clause-answers g c = λ r honest keep starts. each_answer c.laws_of_runs.ensures _ _ c.in_order.ensures _ r honest keep starts _ _

pub returns-clause-replies : goal.returns-clause-replies
returns-clause-replies g c = λ r honest keep starts. each_reply c.laws_of_runs.ensures _ _ c.in_order.ensures _ r honest keep starts _ _

pub returns-clause-once : goal.returns-clause-once
returns-clause-once g c = λ r honest keep starts. each_once c.laws_of_runs.ensures _ _ c.in_order.ensures _ r honest keep starts _ _

pub returns-clause-failures : goal.returns-clause-failures
returns-clause-failures g c = λ r honest keep starts. each_failure c.laws_of_runs.ensures _ _ c.in_order.ensures _ r honest keep starts _ _

pub returns-clause-no_reply : goal.returns-clause-no_reply
returns-clause-no_reply g c = λ r honest keep starts. each_no_reply c.laws_of_runs.ensures _ _ c.in_order.ensures _ r honest keep starts _ _

pub returns-clause-replaced_answers : goal.returns-clause-replaced_answers
returns-clause-replaced_answers g c = λ of are. each_since c.laws_of_runs.ensures _ _ c.in_order.ensures _ c.requires of are _ _

pub returns-clause-replaced_remembered : goal.returns-clause-replaced_remembered
returns-clause-replaced_remembered g c = λ of are. each_of_late c.laws_of_runs.ensures _ _ c.in_order.ensures _ c.requires of are _ _

pub returns-clause-replaced_replies : goal.returns-clause-replaced_replies
returns-clause-replaced_replies g c = λ of are. each_reply_in_force c.laws_of_runs.ensures _ _ c.in_order.ensures _ c.requires of are _ _

pub returns-clause-replaced_failures : goal.returns-clause-replaced_failures
returns-clause-replaced_failures g c = λ of are. each_failure_in_force c.laws_of_runs.ensures _ _ c.in_order.ensures _ c.requires of are _ _

pub returns-clause-replaced_no_reply : goal.returns-clause-replaced_no_reply
returns-clause-replaced_no_reply g c = λ of are. each_no_reply_in_force c.laws_of_runs.ensures _ _ c.in_order.ensures _ c.requires of are _ _

pub returns-clause-replaced_once : goal.returns-clause-replaced_once
returns-clause-replaced_once g c = λ of are. each_once_in_force c.laws_of_runs.ensures _ _ c.in_order.ensures _ c.requires of are _ _

pub returns-in_err-event-clause-stay : goal.returns-in_err-event-clause-stay
returns-in_err-event-clause-stay g c = λ k r h. c.take_step.ensures.stay.1 k r (c.loop-step.invariant.honest.1 k r h)

pub returns-in_err-event-clause-stay_silent : goal.returns-in_err-event-clause-stay_silent
returns-in_err-event-clause-stay_silent g c = λ k r h. c.take_step.ensures.stay_silent.1 k r (c.loop-step.invariant.silent.1 k r h)

pub returns-in_err-push-clause-stay : goal.returns-in_err-push-clause-stay
returns-in_err-push-clause-stay g c = λ k r h. c.take_step.ensures.stay.1 k r (c.loop-step.invariant.honest.1 k r h)

pub returns-in_err-push-clause-stay_silent : goal.returns-in_err-push-clause-stay_silent
returns-in_err-push-clause-stay_silent g c = λ k r h. c.take_step.ensures.stay_silent.1 k r (c.loop-step.invariant.silent.1 k r h)

pub returns-in_err-event-clause-others : goal.returns-in_err-event-clause-others
returns-in_err-event-clause-others g c = others_stay c.loop-step.invariant _ c.take_step.ensures.others

pub returns-in_err-push-clause-others : goal.returns-in_err-push-clause-others
returns-in_err-push-clause-others g c = others_stay c.loop-step.invariant _ c.take_step.ensures.others

pub returns-clause-others : goal.returns-clause-others
returns-clause-others g c = others_stay c.loop-step.invariant _ (λ k none. refl)
