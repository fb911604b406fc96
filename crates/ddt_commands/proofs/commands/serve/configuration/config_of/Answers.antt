use Rattle.std.proofs.Common.{subst, sym}
use Rattle.ddt_commands.specs.Commands.Serve.{IsBadConfig}
use Rattle.ddt_commands.proofs.ServeLemmas.{bad_config}
use Rattle.ddt_commands.proofs.commands.serve.configuration.config_of.Goals as goal

pub returns-in-Err-clause-refused : goal.returns-in-Err-clause-refused
returns-in-Err-clause-refused c =
    subst (IsBadConfig c.args.bytes.now) (sym c.refused_config.ensures) (bad_config c.args.bytes.now c.in-Err.fault c.in-Err.ensures.refused)
