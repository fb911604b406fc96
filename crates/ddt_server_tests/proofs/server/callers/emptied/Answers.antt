use Rattle.std.proofs.Common.{◌∙◌, ap, rules}
use Rattle.std.specs.FinMap.{insert}
use Rattle.ddt_trie.specs.laws.Map.{emptied}
use Rattle.ddt_server_tests.proofs.server.callers.emptied.Goals as goal

pub returns : goal.returns
returns g c =
    c.len.ensures ∙ emptied _ (g.M.PrefixMap.content c.insert.new.self) (g.M.PrefixMap.content c.retain.new.self) c.args.prefix
    (c.in_ok-insert.ensures.inserted ∙ ap (λ m. insert m c.args.prefix 2) c.empty-map.ensures) c.retain.ensures (λ v b k. search rules)
