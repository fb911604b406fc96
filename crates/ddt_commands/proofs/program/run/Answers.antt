use Rattle.std.proofs.Common.{Err, ap, map, refl, string_bytes, sym, ◌∙◌}
use Rattle.std.specs.Fn.{FnReturnsAt}
use Rattle.ddt_commands.specs.CommandLine.Call.{call_of}
use Rattle.ddt_commands.specs.declared.commands.Command.TheVariants.{Loop, Serve}
use Rattle.ddt_commands.specs.Sockets.{Binds}
use Rattle.ddt_commands.specs.Wires.{over_wires}
use Rattle.ddt_commands.proofs.RunLemmas.{another, calls_for, command_ends}
use Rattle.ddt_commands.proofs.program.run.Goals as goal

pub returns-clause-bad : goal.returns-clause-bad
returns-clause-bad g c = λ status. (c.in-Err.ensures.bad (ap Err c.in-None-refused_words.ensures), refl)

pub returns-in-Some-clause-ends : goal.returns-in-Some-clause-ends
returns-in-Some-clause-ends g c = λ fits.
    let before = c.args.environment.now in
    let after = c.run_command.new.environment in
    command_ends (FnReturnsAt g.O.Fn before.open_file) g.F.Read.remaining
    (over_wires (Binds g.B.Fn before.bind) g.W.Wires.calls g.C.Clock.readings before.wires after.wires before.clock after.clock)
    (map string_bytes c.args.words.now) c.in-Some.command (call_of c.in-Ok.words) c.run_command.result _
    (c.in-Ok.ensures.found, sym (c.in-Some.ensures ∙ c.command.ensures)) c.run_command.ensures.ends

pub returns-in-Some-clause-quiet : goal.returns-in-Some-clause-quiet
returns-in-Some-clause-quiet g c = λ no_server no_loop.
    let calls = calls_for (map string_bytes c.args.words.now) c.in-Some.command (call_of c.in-Ok.words) c.in-Ok.ensures.found
    (c.in-Some.ensures ∙ c.command.ensures) in
    c.run_command.ensures.quiet (another (map string_bytes c.args.words.now) _ Serve _ calls no_server)
    (another (map string_bytes c.args.words.now) _ Loop _ calls no_loop)

pub returns-in-Some-clause-still : goal.returns-in-Some-clause-still
returns-in-Some-clause-still g c = λ no_loop.
    let calls = calls_for (map string_bytes c.args.words.now) c.in-Some.command (call_of c.in-Ok.words) c.in-Ok.ensures.found
    (c.in-Some.ensures ∙ c.command.ensures) in
    c.run_command.ensures.still (another (map string_bytes c.args.words.now) _ Loop _ calls no_loop)
