use Rattle.std.proofs.Common.{map, string_bytes}
use Rattle.std.proofs.lemmas.Result.{IfOk-weaker}
use Rattle.ddt_commands.specs.CommandLine.Call.{call_of}
use Rattle.ddt_commands.proofs.RunLemmas.{bad_words, program_calls, simple_line}
use Rattle.ddt_commands.proofs.call.read_words.Goals as goal

pub read_call-requires : goal.read_call-requires
read_call-requires c = simple_line c.command_list.result.now c.command_list.ensures

pub returns-clause-found : goal.returns-clause-found
returns-clause-found c =
    IfOk-weaker c.read_call.result _ _ (λ w calls.
    program_calls c.command_list.result.now (map string_bytes c.args.words.now) (call_of w) c.command_list.ensures calls) c.read_call.ensures.found

pub returns-clause-bad : goal.returns-clause-bad
returns-clause-bad c = λ bad. bad_words c.command_list.result.now (map string_bytes c.args.words.now) c.command_list.ensures (c.read_call.ensures.bad bad)
