use Rattle.ddt_path.specs.laws.Member.{in_contained}
use Rattle.ddt_check.specs.laws.Kept.{has_servers, starts_with_first}
use Rattle.ddt_check.proofs.laws.each_zone_has_servers.Goals as goal

pub returns : goal.returns
returns c = record {
  served = λ r accepted z k. has_servers r accepted z (in_contained r.zones z k);
  first = λ r accepted g k. starts_with_first r accepted g (in_contained r.groups g k);
}
