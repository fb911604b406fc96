use Rattle.std.proofs.Common.{◌∙◌, sym, ap, []}
use Rattle.std.proofs.lemmas.Option.{none-some}
use Rattle.ddt_check.specs.Zones.{zone_of}
use Rattle.ddt_check.specs.laws.Root.{zone_found}
use Rattle.ddt_check.specs.laws.Kept.{servers_of_zone}
use Rattle.ddt_check.proofs.CaseLemmas.{in_zone}
use Rattle.ddt_check.proofs.accepted.Accepted.roots.Goals as goal

pub returns-in-Some-clause-count : goal.returns-in-Some-clause-count
returns-in-Some-clause-count c =
    let r = c.self.inside.register in
    let found = ap (zone_of r) (sym c.everything.ensures) ∙ sym c.in-Some.ensures in
    let zone = c.in-Some.zone in
    rw (c.servers_of.ensures, ← c.self.view_is) (servers_of_zone r c.self.invariant zone (in_zone r [] zone found).0)

pub returns-in-None-clause-count : goal.returns-in-None-clause-count
returns-in-None-clause-count c =
    let r = c.self.inside.register in
    let zone = zone_found r c.self.invariant [] in
    absurd (none-some zone.0 (c.in-None.ensures ∙ ap (zone_of r) c.everything.ensures ∙ zone.1))
