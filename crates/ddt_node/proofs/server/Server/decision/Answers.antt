use Rattle.std.proofs.Common.{ap, sym, ◌∙◌}
use Rattle.ddt_path.specs.declared.matches.Preference.TheVariants.{Longest}
use Rattle.ddt_path.specs.Path.{xeid_path}
use Rattle.ddt_path.specs.laws.Matching.{best_member}
use Rattle.ddt_config.specs.declared.authority.Authority.{Authority}
use Rattle.ddt_config.specs.Table.{Outline}
use Rattle.ddt_node.specs.Decisions.{etr_by, record_by}
use Rattle.ddt_node.specs.Places.{places_in}
use Rattle.ddt_node.proofs.AnswerLemmas.{answer_from, etr_from}
use Rattle.ddt_node.proofs.PlaceLemmas.{same_at, found_at}
use Rattle.ddt_node.proofs.server.Server.decision.Goals as goal

pub decision_in-requires-clause-places : goal.decision_in-requires-clause-places
decision_in-requires-clause-places g c =
    let inside = rw c.as_slice-authorities.ensures.value at c.in-Some.ensures.inside in
    let read = rw c.as_slice-authorities.ensures.value at c.index-authorities-at.is in
    same_at g.M.PrefixMap.content places_in c.self.inside.index.contents.items c.self.inside.authorities.items c.in-Some.at _ _ c.self.invariant.1.of_contents inside c.index.ensures read

pub decision_in-requires-clause-inside : goal.decision_in-requires-clause-inside
decision_in-requires-clause-inside g c =
    let items = c.as_slice-authorities.result.now in
    let x = xeid_path c.args.x in
    let path = λ (a : Authority). a.prefix in
    (best_member Longest path x items _ (found_at path items x c.in-Some.at _ c.in-Some.ensures.found c.in-Some.ensures.inside c.index-authorities-at.is)).1

pub returns-in-Some-clause-record : goal.returns-in-Some-clause-record
returns-in-Some-clause-record g c =
    let x = xeid_path c.args.x in
    let servers = c.self.inside.locators in
    let found = rw c.as_slice-authorities.ensures.value at (found_at (λ (a : Authority). a.prefix) c.as_slice-authorities.result.now x c.in-Some.at _ c.in-Some.ensures.found c.in-Some.ensures.inside c.index-authorities-at.is) in
    ap (λ (o : Outline). record_by o.locators x c.decision_in.result) (sym c.self.view_is)
    ∙ answer_from _ c.args.self.now x _ found c.self.view_is (record_by servers x c.decision_in.result) (c.decision_in.ensures.record servers)

pub returns-in-Some-clause-etr : goal.returns-in-Some-clause-etr
returns-in-Some-clause-etr g c =
    let x = xeid_path c.args.x in
    let found = rw c.as_slice-authorities.ensures.value at (found_at (λ (a : Authority). a.prefix) c.as_slice-authorities.result.now x c.in-Some.at _ c.in-Some.ensures.found c.in-Some.ensures.inside c.index-authorities-at.is) in
    etr_from _ c.args.self.now x _ found c.self.view_is (etr_by c.decision_in.result) c.decision_in.ensures.etr
