use Rattle.std.proofs.Common.{false, refl, ap, ◌∙◌}
use Rattle.ddt_sim.specs.declared.schedule.Event.TheVariants.{Replied}
use Rattle.ddt_sim.specs.World.{by_reply, by_silence}
use Rattle.ddt_sim.proofs.RunLemmas.{read_at}
use Rattle.ddt_sim.proofs.schedule_run.serve.Goals as goal

pub returns-in_default-clause-serves : goal.returns-in_default-clause-serves
returns-in_default-clause-serves g c =
    let d = c.index-request.result.now in
    let r = read_at c.args.sent.now.items c.args.number false d c.requires c.index-request.ensures in
    by_silence d r.0 r.1 (record {
      honestly = λ q m honest server asks. rw c.in_default.is at (c.in_ok-bytes.ensures.says q m honest server (rw c.as_slice.ensures asks));
      silently = λ q silent none. refl;
    }) refl refl

pub returns-clause-serves : goal.returns-clause-serves
returns-clause-serves g c =
    let d = c.index-request.result.now in
    let r = read_at c.args.sent.now.items c.args.number false d c.requires c.index-request.ensures in
    by_reply d c.in-Some.bytes r.0 r.1 (record {
      honestly = λ q m honest server asks. rw c.in-Some.is at (c.in_ok-bytes.ensures.says q m honest server (rw c.as_slice.ensures asks));
      silently = λ q silent none. absurd (cc (c.in-Some.is, c.in_ok-bytes.ensures.nothing q silent none));
    }) (ap Replied (c.len-next.ensures ∙ c.args.sent.now.ok.0)) c.in_ok-push.ensures.items
