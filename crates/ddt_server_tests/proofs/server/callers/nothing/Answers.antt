use Rattle.std.proofs.Common.{◌∙◌}
use Rattle.ddt_path.specs.Path.{xeid_path}
use Rattle.ddt_trie.specs.laws.Map.{none_longest, free_of_empty}
use Rattle.ddt_server_tests.proofs.server.callers.nothing.Goals as goal

pub returns-clause-longest : goal.returns-clause-longest
returns-clause-longest g c = c.is_some-2.ensures ∙ none_longest (g.M.PrefixMap.content c.empty-map.result) (xeid_path c.args.x) c.longest.result (λ r. r.0) (λ r. r.1.now) c.empty-map.ensures c.longest.ensures.longest

pub returns-clause-hole : goal.returns-clause-hole
returns-clause-hole g c = c.free.ensures.first ∙ free_of_empty (g.M.PrefixMap.content c.empty-map.result) c.args.from (xeid_path c.args.x) c.empty-map.ensures c.requires
