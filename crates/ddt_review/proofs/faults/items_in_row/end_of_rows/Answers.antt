use Rattle.std.proofs.Common.{◌≤◌, List, sym, subst, arith}
use Rattle.std.specs.List.{Contains}
use Rattle.ddt_path.specs.laws.Member.{contained}
use Rattle.ddt_register.specs.declared.zone.Zone.{Zone}
use Rattle.ddt_register.specs.declared.site.Site.{Site}
use Rattle.ddt_register.specs.declared.group.Group.{Group}
use Rattle.ddt_review.proofs.FaultsLemmas.ListLemmas.{broken_low}
use Rattle.ddt_review.proofs.faults.items_in_row.end_of_rows.Goals as goal

pub returns : goal.returns
returns c =
    let r = c.args.register.now in
    let both = c.max.ensures in
    let all = c.max-2.ensures in
    broken_low r _ (omega arith) (λ z k.
    let le : z.row ≤ c.last_row-zones.result = c.last_row-zones.ensures.last z
    (subst (λ (zs : List Zone). Contains zs z) (sym c.as_slice.ensures) (contained r.zones z k)) in
    omega arith) (λ s k.
    let le : s.row ≤ c.last_row-sites.result = c.last_row-sites.ensures.last s
    (subst (λ (ss : List Site). Contains ss s) (sym c.as_slice-2.ensures) (contained r.sites s k)) in
    omega arith) (λ g k.
    let le : g.row ≤ c.last_row-groups.result = c.last_row-groups.ensures.last g
    (subst (λ (gs : List Group). Contains gs g) (sym c.as_slice-3.ensures) (contained r.groups g k)) in
    omega arith)
