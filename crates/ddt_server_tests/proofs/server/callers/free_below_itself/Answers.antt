use Rattle.std.proofs.Common.{◌∙◌}
use Rattle.ddt_path.specs.Path.{xeid_path}
use Rattle.ddt_trie.specs.laws.Below.{free_below_alone}
use Rattle.ddt_server_tests.proofs.server.callers.free_below_itself.Goals as goal

pub returns : goal.returns
returns g c =
    c.free_below.ensures.first
    ∙ free_below_alone (g.M.PrefixMap.content c.insert.new.self) (g.M.PrefixMap.content c.empty-map.result) c.args.from
    (xeid_path c.args.x) 1 c.empty-map.ensures c.in_ok-insert.ensures.inserted c.requires
