use Rattle.std.proofs.Common.{◌≡◌, true, List, length, ap, sym, ◌∙◌, arith}
use Rattle.ddt_config.specs.declared.site_entry.SiteEntry.{SiteEntry}
use Rattle.ddt_config.specs.declared.authority.Content.TheVariants.{Sites}
use Rattle.ddt_config.specs.Shaped.{have_own_prefixes}
use Rattle.ddt_node.specs.laws.Changed.{place_inside}
use Rattle.ddt_node.proofs.EtrLemmas.{etrs_are_set, no_etrs_are_set}
use Rattle.ddt_node.proofs.site_etrs.set_in_content.Goals as goal

pub index_mut-requires : goal.index_mut-requires
index_mut-requires g c =
    let is = rw c.in-Sites.is at c.requires.indexed in
    let inside = place_inside (λ (s : SiteEntry). s.prefix) c.args.prefix c.in-Sites.sites _ is c.in-Some.place.now (sym c.in-Some.ensures) in
    let items : c.into_vec-items.result.items ≡ c.in-Sites.sites = c.into_vec-items.ensures ∙ c.replace.ensures.value in
    omega (arith, ap (λ (ss : List SiteEntry). length ss) items, inside)

pub returns-in-Some : goal.returns-in-Some
returns-in-Some g c =
    let is = rw c.in-Sites.is at c.requires.indexed in
    let own : have_own_prefixes (λ (s : SiteEntry). s.prefix) c.in-Sites.sites ≡ true = rw c.in-Sites.is at c.requires.own in
    let items : c.into_vec-items.result.items ≡ c.in-Sites.sites = c.into_vec-items.ensures ∙ c.replace.ensures.value in
    rw c.in-Sites.is (ap Sites (c.of-in-Some.ensures
    ∙ etrs_are_set c.args.prefix c.args.etrs c.in-Sites.sites _ is c.in-Some.place.now c.into_vec-items.result.items c.index_mut.result.now own (sym c.in-Some.ensures) items c.index_mut.ensures.value))

pub returns-in-None : goal.returns-in-None
returns-in-None g c =
    let is = rw c.in-Sites.is at c.requires.indexed in
    rw c.in-Sites.is (ap Sites (sym (no_etrs_are_set c.args.prefix c.args.etrs c.in-Sites.sites _ is (sym c.in-None.ensures))))
