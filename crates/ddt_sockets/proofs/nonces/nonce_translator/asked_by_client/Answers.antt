use Rattle.ddt_sockets.proofs.nonces.nonce_translator.asked_by_client.Goals as goal

pub returns-in-Err-clause-none : goal.returns-in-Err-clause-none
returns-in-Err-clause-none c nonce x a = let e = c.in-Err.ensures.only a.message a.spells in absurd (cc e)
