use Rattle.ddt_wire.specs.laws.Message.{replies_are_read, written_reply_spells}
use Rattle.ddt_wire.proofs.laws.reply_laws.Goals as goal

pub returns : goal.returns
returns c = record { read = replies_are_read; written = written_reply_spells }
