use Rattle.ddt_laws.proofs.ReplacedEndsLemmas.RunLemmas.{ends_truly_meanwhile}
use Rattle.ddt_laws.proofs.positive_ends.lookups_end_truly.Goals as goal

pub returns : goal.returns
returns c = ends_truly_meanwhile c.referral_laws.ensures.back c.honest_servers_lead_to_the_assignment.ensures.decided
