use Rattle.std.proofs.Common.{◌∙◌, ap}
use Rattle.std.specs.FinMap.{get}
use Rattle.ddt_trie.specs.laws.Map.{get-insert_other}
use Rattle.ddt_server_tests.proofs.server.callers.others_stay.Goals as goal

pub returns : goal.returns
returns g c =
    let h = c.copied.ensures in
    h ∙ c.get.ensures ∙ ap (λ m. get m c.args.other) c.in_ok-insert.ensures.inserted ∙ get-insert_other (g.M.PrefixMap.content c.args.kept.now) c.args.prefix c.args.value c.args.other c.requires.apart
