use Rattle.std.proofs.Common.{length}
use Rattle.ddt_sockets.specs.Nonces.Translation.{none, failed}
use Rattle.ddt_sockets.proofs.nonces.nonce_translator.NonceTranslator.receive.Goals as goal

pub returns-in-Ok-Some-clause-translated : goal.returns-in-Ok-Some-clause-translated
returns-in-Ok-Some-clause-translated g c = (_, rw c.in-Ok-Some.field-0-is at c.in-Ok-Some.ensures.told, c.lift.ensures.translated)

pub returns-in-Ok-None-clause-translated : goal.returns-in-Ok-None-clause-translated
returns-in-Ok-None-clause-translated g c = (_, rw c.in-Ok-None.field-0-is at c.in-Ok-None.ensures.told, none c.args.at (length c.receive.new.buffer))

pub returns-in-Err-clause-translated : goal.returns-in-Err-clause-translated
returns-in-Err-clause-translated g c = (_, c.in-Err.ensures.told, failed c.args.at (length c.receive.new.buffer) c.in-Err.fault)
