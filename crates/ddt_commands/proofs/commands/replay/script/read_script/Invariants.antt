use Rattle.ddt_commands.specs.Commands.Script.{SpellSteps}
use Rattle.ddt_commands.proofs.Texts.{texts}
use Rattle.ddt_commands.proofs.commands.replay.script.read_script.Given as goal

abbrev pub invariant-loop-line : goal.invariant-loop-line
invariant-loop-line l = SpellSteps (texts l.yielded) l.steps.items
