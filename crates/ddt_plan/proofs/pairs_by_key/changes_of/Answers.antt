use Rattle.std.proofs.Common.{rules}
use Rattle.std.proofs.lemmas.Iterator.{items_from_collect}
use Rattle.std.proofs.lemmas.Iterator.Consumers.{YieldsList-from_filter_map, YieldsList-from_rest}
use Rattle.std.proofs.lemmas.Result.{IfOk-weaker}
use borrow.Author.Tests.{tests}
use Rattle.ddt_plan.specs.Tables.{change_of}
use Rattle.ddt_plan.proofs.pairs_by_key.changes_of.Goals as goal

pub returns : goal.returns
returns g c =
    IfOk-weaker c.collect.result _ _ (λ changes e. (e, c.into_iter.ensures.into_iter_gives.5))
    (items_from_collect c.collect.result c.collect.ensures.ran
    (YieldsList-from_filter_map _ (change_of g.V.PartialEq.eq) (YieldsList-from_rest c.args.table.entries (search rules)) c.filter_map.ensures.closure
    (λ x q p k. search (rules, tests))))
