use Rattle.ddt_wire.specs.laws.Message.{messages_are_read, written_spells, record_back}
use Rattle.ddt_wire.proofs.laws.referral_laws.Goals as goal

pub returns : goal.returns
returns c = record { read = messages_are_read; written = written_spells; back = record_back }
