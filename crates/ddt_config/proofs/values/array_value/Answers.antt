use Rattle.std.proofs.Common.{subst}
use Rattle.std.proofs.lemmas.List.Elements.{All-more}
use Rattle.toml.proofs.Views.{view-Array}
use Rattle.ddt_config.proofs.WriteLemmas.{values-next, values-end}
use Rattle.ddt_config.proofs.values.array_value.Goals as goal

pub loop-item-preserved : goal.loop-item-preserved
loop-item-preserved g c = record {
  written = rw c.in_ok-push.ensures.items
      (values-next g.T.Written.written c.loop-item.values.items c.args.items.now c.loop-item.item-index _ c.item-item.result c.item-item.result c.loop-item-test.true c.item-item.is
      c.loop-item.invariant.written c.in_ok-write.ensures.written);
  spelled = All-more g.T.Written.is_spelled c.args.items.now c.loop-item.item-index c.item-item.result c.loop-item-test.true c.loop-item.invariant.spelled
      (subst g.T.Written.is_spelled c.item-item.is c.in_ok-write.ensures.spelled);
}

pub returns-clause-written : goal.returns-clause-written
returns-clause-written g c =
    values-end g.T.Written.written _ c.loop-item.values.items c.args.items.now c.loop-item.item-index (view-Array c.loop-item.values) c.loop-item-test.false c.loop-item.invariant.written
