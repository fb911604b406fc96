use Rattle.std.proofs.Common.{◌≡◌, List}
use Rattle.ddt_map_register.specs.RegisterRecord.{RegisterRecord}
use Rattle.ddt_config.specs.Table.{Outline}
use Rattle.ddt_registrar.specs.Prepared.{ArePrepared}
use Rattle.ddt_registrar.specs.Sender.{sender_of}
use Rattle.ddt_registrar.specs.Taking.{after_all, in_force}
use Rattle.ddt_registrar.proofs.registrar.Registrar.change_all.Given as goal

-- the changes that are left are those by the records that are left, after which the sites are as after all
abbrev pub invariant-loop-change : goal.invariant-loop-change
invariant-loop-change g l =
    ((left : List RegisterRecord)
    × ArePrepared l.arrival.moment l.arrival.message.now (sender_of l.arrival.message.now.id l.arrival.from) l.self 0 left l.change-iterator.rest.items
    × (after_all l.arrival.moment l.arrival.message.now (sender_of l.arrival.message.now.id l.arrival.from) left l.self
    ≡ after_all l.arrival.moment l.arrival.message.now (sender_of l.arrival.message.now.id l.arrival.from) l.arrival.message.now.records l.fn.self))
    × ((c : Outline) → l.fn.server ≡ in_force l.fn.self c → l.server ≡ in_force l.self c)
