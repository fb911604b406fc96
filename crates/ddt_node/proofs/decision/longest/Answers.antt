use Rattle.std.proofs.lemmas.Bool.{false≢true}
use Rattle.ddt_path.specs.Path.{xeid_path}
use Rattle.ddt_node.proofs.PlaceLemmas.{longest_place, no_longest_place}
use Rattle.ddt_node.proofs.decision.longest.Goals as goal

pub returns-in-Some-clause-inside : goal.returns-in-Some-clause-inside
returns-in-Some-clause-inside g c = (longest_place g.T.Prefixed.path (xeid_path c.args.x) c.args.items.now _ c.requires _ _ c.in-Some.ensures.longest).0

pub returns-in-Some-clause-found : goal.returns-in-Some-clause-found
returns-in-Some-clause-found g c = (longest_place g.T.Prefixed.path (xeid_path c.args.x) c.args.items.now _ c.requires _ _ c.in-Some.ensures.longest).1

pub returns-in-None-clause-none : goal.returns-in-None-clause-none
returns-in-None-clause-none g c = no_longest_place g.T.Prefixed.path (xeid_path c.args.x) c.args.items.now _ c.requires (λ k. absurd (false≢true (c.in-None.ensures.covered k)))
