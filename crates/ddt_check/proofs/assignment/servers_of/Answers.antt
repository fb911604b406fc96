use Rattle.ddt_check.specs.laws.Kept.{few_locators}
use Rattle.ddt_check.proofs.assignment.servers_of.Goals as goal

pub of_few-requires : goal.of_few-requires
of_few-requires c =
    rw (c.locators_of.ensures, c.register.ensures.register)
    (few_locators c.args.accepted.now c.register.ensures.accepted c.args.group)
