use Rattle.ddt_ecm.specs.laws.Request.{messages_are_read}
use Rattle.ddt_ecm.specs.laws.Written.{written_spells, written_is_read}
use Rattle.ddt_ecm.proofs.laws.request_laws.Goals as goal

pub returns : goal.returns
returns c = record { read = messages_are_read; written = written_spells; again = written_is_read }
