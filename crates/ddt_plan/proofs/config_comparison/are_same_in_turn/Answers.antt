use Rattle.std.proofs.Common.{◌≡◌, true, false, rules}
use Rattle.std.specs.Prelude.{◌&&◌}
use Rattle.std.specs.List.{zip}
use Rattle.std.proofs.lemmas.Iterator.{cases_from_all, YieldsList-from_zip}
use Rattle.std.proofs.lemmas.Iterator.Adapters.{YieldsList-from_vec}
use borrow.Author.Tests.{tests}
use Rattle.ddt_path.specs.Covers.{is_same_path}
use Rattle.ddt_plan.proofs.OrderLemmas.{AreWhole, told_by_all, whole_pairs}
use Rattle.ddt_plan.proofs.config_comparison.are_same_in_turn.Goals as goal

pub returns : goal.returns
returns g c = λ whole others.
    let before = c.args.before.items in
    let after = c.args.after.items in
    let test = λ (p : g.row.T.Denot × g.row.T.Denot).
    is_same_path (g.T.Prefixed.path p.0) (g.T.Prefixed.path p.1) && g.T.ComparedItem.same p.0 p.1 in
    let Whole = AreWhole g.T.ComparedItem.is_whole in
    told_by_all Whole test (zip before after) c.all.result
    (whole_pairs g.T.ComparedItem.is_whole before after whole others)
    (cases_from_all c.all.new.self _ c.all.result (λ p. Whole p → test p ≡ true) (λ p. Whole p → test p ≡ false)
    c.all.ensures.ran
    (YieldsList-from_zip (YieldsList-from_vec {s = c.zip.result.a} before (search rules) (search rules))
    (YieldsList-from_vec {s = c.zip.result.b} after (search rules) (search rules)))
    (λ x q k. search (rules, tests)) (λ x q k. search (rules, tests)))
