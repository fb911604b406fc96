use Rattle.std.proofs.Common.{◌∙◌, ap}
use Rattle.std.specs.FinMap.{insert}
use Rattle.ddt_path.specs.Path.{xeid_path}
use Rattle.ddt_trie.specs.laws.Map.{innermost_found}
use Rattle.ddt_server_tests.proofs.server.callers.innermost.Goals as goal

pub returns-in-Some : goal.returns-in-Some
returns-in-Some g c =
    innermost_found (g.M.PrefixMap.content c.insert-2.new.self) c.args.outer c.args.inner (xeid_path c.args.x) c.in-Some.found.0 c.in-Some.found.1.now
    (c.in_ok-insert-2.ensures.inserted ∙ ap (λ n. insert n c.args.inner 2) (c.in_ok-insert.ensures.inserted ∙ ap (λ n. insert n c.args.outer 1) c.empty-map.ensures))
    c.requires.nested c.requires.inside c.in-Some.ensures.longest
