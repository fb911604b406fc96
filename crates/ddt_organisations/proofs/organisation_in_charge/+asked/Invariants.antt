use Rattle.ddt_organisations.proofs.organisation_in_charge.+asked.Given as goal

abbrev pub decreases-asked : goal.decreases-asked
decreases-asked l = l.hops
