use Rattle.std.proofs.Common.{[], ◌∷◌}
use Rattle.ddt_sockets.specs.declared.wire_calls.Call.TheVariants.{Tried}
use Rattle.ddt_loop.proofs.ActLemmas.{told_itr}
use Rattle.ddt_loop.proofs.requesters.Requesters.reply_to_itr.Goals as goal

pub returns-clause-told : goal.returns-clause-told
returns-clause-told g c = (
  Tried c.args.me c.args.request.now.to c.args.request.now.port c.as_slice.result.now c.send-sent.result ∷ [],
  c.send-sent.ensures.told,
  told_itr c.args.me c.args.outcome.now c.args.request.now c.put_itr_reply.result c.send-sent.result
      c.put_itr_reply.new.buffer.items c.as_slice.result.now c.put_itr_reply.ensures.answered
      c.if-not-put_itr_reply.false c.as_slice.ensures.value,
)
