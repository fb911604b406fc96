use Rattle.std.proofs.Common.{ap, ◌∙◌}
use Rattle.std.proofs.lemmas.Result.{IfOk-weaker}
use Rattle.ddt_commands.specs.Commands.Replay.{lines_from}
use Rattle.ddt_commands.proofs.ReplayLemmas.{told_run}
use Rattle.ddt_commands.proofs.commands.replay.schedule.replay.Goals as goal

pub returns : goal.returns
returns c =
    let ran = c.in_ok-transcript.ensures in
    IfOk-weaker c.event_lines.result _ _ (λ text is.
    told_run c.a_step_keeps_a_resolver_sound.ensures.new c.args.first.now c.args.others.now c.args.me c.args.seed c.roots.result c.new-resolver.result c.roots.ensures.group c.new-resolver.ensures
    c.in_ok-servers.ensures.accepted c.requires c.args.steps.now c.in_ok-transcript.transcript c.run.new.resolver c.deref_mut.result.now (c.deref_mut.ensures.value ∙ c.in_ok-servers.ensures.servers)
    (record {
      run = ran.run;
      answers = ran.answers;
      replies = ran.replies;
      failures = ran.failures;
      no_reply = ran.no_reply;
      since = ran.replaced_answers;
      remembered = ran.replaced_remembered;
      in_force = ran.replaced_replies;
      failing = ran.replaced_failures;
      in_vain = ran.replaced_no_reply;
      once = ran.replaced_once;
    }) text.items (is ∙ ap (lines_from 0) c.as_slice.ensures)) c.event_lines.ensures
