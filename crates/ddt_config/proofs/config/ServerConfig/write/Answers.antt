use Rattle.ddt_config.specs.Table.{outline}
use Rattle.ddt_config.proofs.WriteLemmas.{config_back}
use Rattle.ddt_config.proofs.config.ServerConfig.write.Goals as goal

pub returns-clause-back : goal.returns-clause-back
returns-clause-back c =
    config_back (outline c.args.self.now) c.in_ok-name.ensures.1 (rw c.as_slice.ensures.items at c.in_ok-locators.ensures.spelled)
    (rw c.as_slice-2.ensures at c.in_ok-authorities.ensures.spelled) c.args.self.now.shaped
