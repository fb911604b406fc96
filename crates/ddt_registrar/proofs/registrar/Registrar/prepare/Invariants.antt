use Rattle.std.proofs.Common.{◌≡◌, ◌++◌, List, length}
use Rattle.ddt_map_register.specs.RegisterRecord.{RegisterRecord}
use Rattle.ddt_registrar.specs.Prepared.{ArePrepared}
use Rattle.ddt_registrar.specs.Sender.{sender_of}
use Rattle.ddt_registrar.proofs.registrar.Registrar.prepare.Given as goal

-- the records so far, with those that are left, are all of them; and their changes are prepared
abbrev pub invariant-loop-record : goal.invariant-loop-record
invariant-loop-record g l =
    (done : List RegisterRecord) × (l.arrival.message.now.records ≡ done ++ l.rest)
    × ArePrepared l.arrival.moment l.arrival.message.now (sender_of l.arrival.message.now.id l.arrival.from) l.self 0 done l.changes.items

abbrev pub decreases-loop-record : goal.decreases-loop-record
decreases-loop-record g l = length l.rest
