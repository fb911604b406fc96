use Rattle.std.proofs.Common.{codes, inr, refl}
use Rattle.std.proofs.lemmas.Result.{IfErr-weaker, IfOk-weaker}
use Rattle.ddt_commands.specs.CommandLine.Call.{all_values, call_of}
use Rattle.ddt_commands.proofs.LookupLemmas.{values_are}
use Rattle.ddt_commands.proofs.ReplayLemmas.{good_words}
use Rattle.ddt_commands.proofs.commands.replay.lines.Goals as goal

pub returns-in-Ok-clause-text : goal.returns-in-Ok-clause-text
returns-in-Ok-clause-text g c =
    let asked = c.in-Ok.ensures in
    let more = values_are c.all_values.result _ c.unwrap_or-registers.result (all_values (codes "registers") (call_of c.args.words.now))
    c.unwrap_or-registers.ensures c.all_values.ensures refl in
    IfOk-weaker c.replayed.result _ _
    (λ lines h. (c.in-Ok.asked.me, c.in-Ok.asked.seed, asked.resolver.0, asked.resolver.1, rw (asked.paths.0, asked.paths.1, more) at h))
    c.replayed.ensures.text

pub returns-in-Ok-clause-refused : goal.returns-in-Ok-clause-refused
returns-in-Ok-clause-refused g c =
    let asked = c.in-Ok.ensures in
    let call = call_of c.args.words.now in
    let more = values_are c.all_values.result _ c.unwrap_or-registers.result (all_values (codes "registers") call) c.unwrap_or-registers.ensures
    c.all_values.ensures refl in
    IfErr-weaker c.replayed.result _ _
    (λ why h. inr (good_words call _ _ asked.resolver.0 asked.resolver.1, rw (asked.paths.0, asked.paths.1, more) at h)) c.replayed.ensures.refused
