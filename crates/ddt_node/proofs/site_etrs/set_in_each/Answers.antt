use Rattle.std.proofs.Common.{◌≡◌, ◌<◌, length, get_or, sym, ap, ◌∙◌, arith}
use Rattle.ddt_node.specs.Etrs.{authority_with}
use Rattle.ddt_node.specs.Places.{places_in}
use Rattle.ddt_node.proofs.EtrLemmas.{none_mapped, authority_mapped, all_mapped}
use Rattle.ddt_node.proofs.PlaceLemmas.{same_at}
use Rattle.ddt_node.proofs.site_etrs.set_in_each.Goals as goal

pub set_in_content-requires-clause-indexed : goal.set_in_content-requires-clause-indexed
set_in_content-requires-clause-indexed g c =
    let at = c.loop-at.at in
    let a = c.index-authorities-at.result in
    let inside : at < length c.args.authorities.now = omega (arith, c.loop-at-test.true, c.loop-at.invariant.len) in
    let was : a ≡ get_or c.args.authorities.now at a = c.index-authorities-at.is ∙ c.loop-at.invariant.left at (omega arith) a inside in
    same_at g.M.PrefixMap.content places_in c.args.contents.now c.args.authorities.now at c.index-contents-at.result a c.requires.indexed inside c.index-contents-at.is was
    ∙ ap places_in (c.index-authorities-at.is ∙ sym c.authority.view_is)

pub loop-at-init : goal.loop-at-init
loop-at-init g c = none_mapped _ _

pub loop-at-preserved : goal.loop-at-preserved
loop-at-preserved g c =
    authority_mapped c.args.prefix c.args.etrs _ _ _ c.args.authorities.now c.loop-at.authorities c.loop-at.at c.index-authorities-at.result
    (omega (arith, c.loop-at-test.true, c.loop-at.invariant.len)) c.set_in_content.ensures c.authority.view_is c.loop-at.invariant

pub returns : goal.returns
returns g c = all_mapped (authority_with c.args.prefix c.args.etrs) c.args.authorities.now c.loop-at.authorities c.loop-at.at (omega arith) c.loop-at.invariant
