use Rattle.ddt_map_register.proofs.NotifyLemmas.{notify_is}
use Rattle.ddt_map_register.proofs.map_notify.write_notify.Goals as goal

pub returns : goal.returns
returns c = notify_is c.args.head.now c.args.secret.now c.args.records.now c.in_ok-bytes.bytes.items c.put_code.new.bytes.items c.extend_from_slice.new.self.items c.in_ok-bytes.ensures c.in_ok-put_code.ensures c.in_ok-extend_from_slice.ensures.items
