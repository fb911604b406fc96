use Rattle.std.proofs.Common.{◌≡◌}
use Rattle.ddt_path.specs.Path.{xeid_path}
use Rattle.ddt_check.specs.Zones.{roots}
use Rattle.ddt_report.specs.Pictures.Hops.{AreHops}
use Rattle.ddt_report.proofs.PicturesLemmas.HopLemmas.{next_set}
use Rattle.ddt_report.proofs.pictures.hops.hops_of.Given as goal

abbrev pub invariant-loop : goal.invariant-loop
invariant-loop l = AreHops l.accepted (xeid_path l.x) (roots l.accepted) l.hops.items
    × (next_set (roots l.accepted) l.hops.items ≡ l.servers)
