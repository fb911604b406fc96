use Rattle.std.proofs.Common.{sym, subst, rules}
use Rattle.std.proofs.lemmas.Iterator.{items_from_collect}
use Rattle.std.proofs.lemmas.Iterator.Consumers.{YieldsList-from_filter_map, YieldsList-from_rest}
use Rattle.std.proofs.lemmas.Result.{IfOk-weaker}
use borrow.Author.Tests.{tests}
use Rattle.ddt_plan.specs.Groups.{AreGroupChanges}
use Rattle.ddt_plan.proofs.VersionLemmas.{told, changes_are}
use Rattle.ddt_plan.proofs.groups.group_changes.Goals as goal

pub returns : goal.returns
returns c =
    let r = c.args.before.now in
    let s = c.args.after.now in
    let m = c.in_ok-versions_by_name.field-0 in
    IfOk-weaker c.collect.result _ _
    (λ changes e. subst (AreGroupChanges r s) (sym e)
    (changes_are r s m c.into_iter.ensures.into_iter_gives.5 c.in_ok-versions_by_name.ensures))
    (items_from_collect c.collect.result c.collect.ensures.ran
    (YieldsList-from_filter_map _ told (YieldsList-from_rest m.entries (search rules)) c.filter_map.ensures.closure
    (λ x q p k. search (rules, tests))))
