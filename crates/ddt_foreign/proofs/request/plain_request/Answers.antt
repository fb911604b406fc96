use Rattle.std.proofs.Common.{◌≡◌, ◌∙◌}
use Rattle.ddt_foreign.proofs.request.plain_request.Goals as goal

pub returns-clause-written : goal.returns-clause-written
returns-clause-written c =
    let q = c.args.request.now in
    let e : c.as_slice.result.now ≡ q.rlocs = c.as_slice.ensures.value ∙ c.in_ok-rlocs.ensures ∙ c.itr_rlocs.ensures.all in
    rw (← c.nonce.ensures, ← c.xeid.ensures, ← e) c.write_request.ensures.written
