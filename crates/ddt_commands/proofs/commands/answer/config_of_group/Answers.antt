use Rattle.ddt_commands.proofs.ConfigLemmas.{chosen_or_refused}
use Rattle.ddt_commands.proofs.commands.answer.config_of_group.Goals as goal

pub returns : goal.returns
returns c = let made = c.compile_group.ensures in chosen_or_refused c.args.accepted.now c.args.group c.compile_group.result made.found made.honest made.room
