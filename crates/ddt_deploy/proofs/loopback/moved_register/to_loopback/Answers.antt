use Rattle.std.proofs.Common.{◌≡◌, ◌≤◌, List, length, map, sym, ap, subst, ◌∙◌, rules}
use Rattle.ddt_register.specs.declared.group.Group.{Group}
use Rattle.ddt_register.specs.declared.register.Register.{Register}
use Rattle.ddt_deploy.specs.Loopback.Addresses.{server_addresses}
use Rattle.ddt_deploy.specs.Loopback.Moved.{kept_of, locators_in}
use Rattle.ddt_deploy.proofs.LoopbackLemmas.MovedLemmas.{few_servers}
use Rattle.ddt_deploy.proofs.LoopbackLemmas.AcceptedLemmas.{same_rows, moved_one_for_one, moved_may_be, moved_accepted}
use Rattle.ddt_deploy.proofs.loopback.moved_register.to_loopback.Goals as goal

pub moved_groups-requires : goal.moved_groups-requires
moved_groups-requires c =
    let same : c.as_slice-3.result.now ≡ c.args.register.now.groups =
    c.as_slice-3.ensures ∙ ap (λ (r : Register). r.groups) c.register-old.ensures.register in
    subst (λ (gs : List Group). length (locators_in gs) ≤ 524280) (sym same)
    (few_servers c.args.register.now c.register-old.ensures.accepted)

pub unwrap-requires : goal.unwrap-requires
unwrap-requires c =
    let old = ap (λ (r : Register). r.zones) c.register-old.ensures.register in
    c.of.ensures.only.1 (same_rows c.args.register.now c.in_ok-zones.zones.items c.in_ok-sites.sites.items
    c.in_ok-groups.groups.items
    (c.in_ok-zones.ensures.items ∙ c.as_slice.ensures ∙ old)
    (c.in_ok-sites.ensures ∙ c.as_slice-2.ensures ∙ ap (λ (r : Register). r.sites) c.register-old.ensures.register)
    (c.in_ok-groups.ensures.kept ∙ ap (map kept_of)
    (c.as_slice-3.ensures ∙ ap (λ (r : Register). r.groups) c.register-old.ensures.register)))

pub returns-clause-one_for_one : goal.returns-clause-one_for_one
returns-clause-one_for_one c =
    let zones : c.unwrap.result.zones ≡ c.args.register.now.zones = search rules in
    let sites : c.unwrap.result.sites ≡ c.args.register.now.sites = search rules in
    let groups : map kept_of c.unwrap.result.groups ≡ map kept_of c.args.register.now.groups = search rules in
    let located : locators_in c.unwrap.result.groups
    ≡ server_addresses (length (locators_in c.args.register.now.groups)) = search rules in
    moved_one_for_one c.args.register.now c.unwrap.result c.register-old.ensures.accepted zones sites groups located

pub returns-clause-loopback : goal.returns-clause-loopback
returns-clause-loopback c =
    let zones : c.unwrap.result.zones ≡ c.args.register.now.zones = search rules in
    let sites : c.unwrap.result.sites ≡ c.args.register.now.sites = search rules in
    let groups : map kept_of c.unwrap.result.groups ≡ map kept_of c.args.register.now.groups = search rules in
    let located : locators_in c.unwrap.result.groups
    ≡ server_addresses (length (locators_in c.args.register.now.groups)) = search rules in
    moved_may_be c.args.register.now c.unwrap.result c.register-old.ensures.accepted zones sites groups located

pub returns-clause-accepted : goal.returns-clause-accepted
returns-clause-accepted c =
    let zones : c.unwrap.result.zones ≡ c.args.register.now.zones = search rules in
    let sites : c.unwrap.result.sites ≡ c.args.register.now.sites = search rules in
    let groups : map kept_of c.unwrap.result.groups ≡ map kept_of c.args.register.now.groups = search rules in
    let located : locators_in c.unwrap.result.groups
    ≡ server_addresses (length (locators_in c.args.register.now.groups)) = search rules in
    moved_accepted c.args.register.now c.unwrap.result c.register-old.ensures.accepted zones sites groups located
