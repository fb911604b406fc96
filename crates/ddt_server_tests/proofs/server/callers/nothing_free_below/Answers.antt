use Rattle.ddt_trie.specs.laws.Entry.{is_some-None}
use Rattle.ddt_trie.specs.laws.Map.{inserted_key}
use Rattle.ddt_server_tests.proofs.server.callers.nothing_free_below.Goals as goal

pub returns : goal.returns
returns g c =
    let key = inserted_key (g.M.PrefixMap.content c.insert.new.self) (g.M.PrefixMap.content c.empty-map.result)
    c.args.prefix 1 c.in_ok-insert.ensures.inserted in
    is_some-None c.free_below.result
    (c.free_below.ensures.covered (c.args.prefix, key, c.requires.below, c.requires.inside))
