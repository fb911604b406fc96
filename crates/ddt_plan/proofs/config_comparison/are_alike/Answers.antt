use Rattle.std.proofs.Common.{◌∙◌, rules}
use Rattle.std.specs.Prelude.{◌&&◌}
use Rattle.std.proofs.lemmas.Bool.{and_parts, ne_eqb}
use Rattle.ddt_path.specs.Covers.{is_same_path}
use Rattle.ddt_plan.proofs.OrderLemmas.{alike_in_turn, others_long, whole_moved}
use Rattle.ddt_plan.proofs.config_comparison.are_alike.Goals as goal

pub returns-then-len : goal.returns-then-len
returns-then-len g c = λ own others whole wholes.
    let key = g.T.Prefixed.path in
    let same = λ (x y : g.row.T.Denot). is_same_path (key x) (key y) && g.T.ComparedItem.same x y in
    let before = c.in_order-before.ensures in
    let after = c.in_order-after.ensures in
    c.are_same_in_turn.ensures (whole_moved g.T.ComparedItem.is_whole _ _ before.moved whole)
    (whole_moved g.T.ComparedItem.is_whole _ _ after.moved wholes)
    ∙ alike_in_turn same key (λ x y e. (and_parts (is_same_path (key x) (key y)) (g.T.ComparedItem.same x y) e).0)
    c.args.before c.args.after _ _ before.moved after.moved own others before.sorted after.sorted (search rules)

pub returns-else-len : goal.returns-else-len
returns-else-len g c = λ own others whole wholes.
    let key = g.T.Prefixed.path in
    let same = λ (x y : g.row.T.Denot). is_same_path (key x) (key y) && g.T.ComparedItem.same x y in
    let before = c.in_order-before.ensures in
    let after = c.in_order-after.ensures in
    ne_eqb c.len.result c.len-2.result c.if-len.false
    ∙ others_long same key (λ x y e. (and_parts (is_same_path (key x) (key y)) (g.T.ComparedItem.same x y) e).0)
    c.args.before c.args.after _ _ before.moved after.moved own others before.sorted after.sorted
    (λ e. c.if-len.false (search rules))
