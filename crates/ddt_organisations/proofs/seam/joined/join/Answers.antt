use Rattle.std.proofs.Common.{◌≡◌, ℕ, ◌+◌, ◌≤◌, length, arith, rules}
use Rattle.ddt_organisations.proofs.SeamLemmas.JoinLemmas.{joined_or_many}
use Rattle.ddt_organisations.proofs.seam.joined.join.Goals as goal

pub returns : goal.returns
returns c =
    let groups = c.in_ok-groups.groups.items in
    let zones = c.in_ok-zones.zones.items in
    let sites = c.in_ok-sites.sites.items in
    let first : c.len.result ≡ length groups = search rules in
    let before : length groups + length zones ≤ 65535 → c.saturating_add-before.result ≡ length groups + length zones =
    search rules in
    joined_or_many c.args.ours.now c.args.theirs.now zones sites groups c.len.result c.saturating_add-before.result
    c.in_ok-zones.ensures.text c.in_ok-sites.ensures.text c.in_ok-groups.ensures.text
    c.in_ok-groups.ensures.numbered first c.in_ok-zones.ensures.numbered before c.in_ok-sites.ensures.numbered
    c.of.result c.of.ensures.only c.of.ensures.items
