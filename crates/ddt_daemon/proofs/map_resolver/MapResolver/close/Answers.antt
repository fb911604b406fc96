use Rattle.std.proofs.Common.{[], ◌++◌, ◌∙◌, refl}
use Rattle.ddt_sockets.specs.laws.Tell.{tells_both, tells_none}
use Rattle.ddt_daemon.specs.Goes.{starts}
use Rattle.ddt_daemon.proofs.CloseLemmas.{closed_one, none_left}
use Rattle.ddt_daemon.proofs.map_resolver.MapResolver.close.Goals as goal

pub loop-kept-init : goal.loop-kept-init
loop-kept-init g c = record { calls = ([], [], tells_none _, tells_none _, starts); running = refl; counts = refl; recent = refl }

pub loop-kept-preserved : goal.loop-kept-preserved
loop-kept-preserved g c =
    let i = c.loop-kept.invariant.calls in
    let t = c.tell_sharer.ensures.told in
    let f = c.send_kept.ensures in
    record {
      calls = (
        i.0 ++ t.0,
        i.1 ++ f.0,
        tells_both _ i.0 _ t.0 _ i.2 t.1,
        tells_both _ i.1 _ f.0 _ i.3 f.1,
        rw (c.tell_sharer.ensures.waiting, c.note_give_up.ensures.waiting) (closed_one c.in-Some.kept t.0 f.0 i.4 (rw c.in-Some.is at c.take.ensures) t.2 f.2),
      );
      running = c.tell_sharer.ensures.running ∙ c.note_give_up.ensures.running ∙ c.loop-kept.invariant.running;
      counts = c.tell_sharer.ensures.counts ∙ c.note_give_up.ensures.counts ∙ c.loop-kept.invariant.counts;
      recent = c.tell_sharer.ensures.recent ∙ c.note_give_up.ensures.recent ∙ c.loop-kept.invariant.recent;
    }

pub returns-clause-closed : goal.returns-clause-closed
returns-clause-closed g c =
    let i = c.loop-kept.invariant.calls in
    (i.0, i.1, i.2, i.3, none_left i.4 (rw c.in_default.is at c.take.ensures))
