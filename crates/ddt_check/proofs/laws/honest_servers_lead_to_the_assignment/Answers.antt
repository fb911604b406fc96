use Rattle.ddt_path.specs.laws.Member.{in_contained}
use Rattle.ddt_check.proofs.FreeLemmas.{sendable}
use Rattle.ddt_check.proofs.SaysLemmas.{refers_to_zone, ends_with_assignment, says_what_covers, says_servers, goes_down, say_alike}
use Rattle.ddt_check.proofs.laws.honest_servers_lead_to_the_assignment.Goals as goal

pub returns : goal.returns
returns c = record {
  downwards = λ r accepted z l x k covers here. goes_down r accepted x l z (in_contained r.zones z k) covers here;
  to_zones = λ r accepted l x h. refers_to_zone r accepted x l h;
  decided = λ r accepted l x h. ends_with_assignment r accepted x l h;
  cover = λ r accepted l x. says_what_covers r accepted x l;
  servers = λ r accepted l x h. says_servers r accepted x l h;
  sendable = sendable;
  agree = λ r accepted name l k x here there. say_alike r accepted x name l k here there;
}
