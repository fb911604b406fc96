use Rattle.std.proofs.Common.{[], ◌++◌, append-nil, refl, sym, Ok, Some, None}
use Rattle.ddt_sockets.specs.laws.Tell.{tells_both}
use Rattle.ddt_loop.proofs.EndLemmas.{not_waiting}
use Rattle.ddt_loop.proofs.start_lookups.ask_for_itr.Goals as goal

pub returns-in-Ok-Some-clause-asks : goal.returns-in-Ok-Some-clause-asks
returns-in-Ok-Some-clause-asks g c =
    let w = rw c.in-Ok-Some.field-0-is at c.in-Ok-Some.ensures.asks in
    let t = c.reply_to_itr.ensures.told in (
      w.0 ++ t.0,
      tells_both _ w.0 _ t.0 _ w.1 t.1,
      rw c.reply_to_itr.ensures.same
          (record { answer = Ok (Some c.in-Ok-Some.outcome); asking = w.0; telling = t.0; asks = w.2; tells = t.2; calls_are = refl }),
    )

pub returns-in-Ok-None-clause-asks : goal.returns-in-Ok-None-clause-asks
returns-in-Ok-None-clause-asks g c =
    let w = rw c.in-Ok-None.field-0-is at c.in-Ok-None.ensures.asks in
    (w.0, w.1, record { answer = Ok None; asking = w.0; telling = []; asks = w.2; tells = refl; calls_are = sym (append-nil w.0) })

pub returns-in-Ok-Some-clause-none : goal.returns-in-Ok-Some-clause-none
returns-in-Ok-Some-clause-none g c = let w = rw c.in-Ok-Some.field-0-is at c.in-Ok-Some.ensures.asks in rw c.reply_to_itr.ensures.same (not_waiting w.2 (λ e. cc e))

pub returns-in-Err-clause-none : goal.returns-in-Err-clause-none
returns-in-Err-clause-none g c = not_waiting c.in-Err.ensures.asks.2 (λ e. cc e)
