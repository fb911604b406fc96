use Rattle.ddt_path.specs.Path.{xeid_path}
use Rattle.ddt_trie.specs.laws.Entry.{is_some-None}
use Rattle.ddt_trie.specs.laws.Map.{inserted_covers}
use Rattle.ddt_server_tests.proofs.server.callers.nothing_free.Goals as goal

pub returns : goal.returns
returns g c = is_some-None c.free.result (c.free.ensures.covered (inserted_covers (g.M.PrefixMap.content c.insert.new.self) (g.M.PrefixMap.content c.empty-map.result) c.args.prefix (xeid_path c.args.x) 1 c.in_ok-insert.ensures.inserted c.requires.inside))
