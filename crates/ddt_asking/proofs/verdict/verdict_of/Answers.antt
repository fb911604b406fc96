use Rattle.ddt_asking.proofs.AskLemmas.{silent_for}
use Rattle.ddt_asking.proofs.verdict.verdict_of.Goals as goal

pub returns-in-None : goal.returns-in-None
returns-in-None c =
    rw c.in-None.is
    (silent_for c.args.awaited.client c.args.awaited.xeid c.args.demanded.now c.args.awaited.nonce)
