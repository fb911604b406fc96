use Rattle.std.proofs.Common.{◌≡◌, length}
use Rattle.std.specs.Option.{option_map}
use Rattle.ddt_registrar.specs.Checks.{checked, checked_from}
use Rattle.ddt_registrar.specs.Sender.{sender_of}
use Rattle.ddt_registrar.proofs.registrar.Registrar.check.Given as goal

abbrev pub invariant-loop-record : goal.invariant-loop-record
invariant-loop-record g l =
    let who = sender_of l.arrival.message.now.id l.arrival.from in
    checked_from l.arrival.message.now who l.self l.rest (option_map (λ k. k.now) l.first) ≡ checked l.arrival.message.now who l.self

abbrev pub decreases-loop-record : goal.decreases-loop-record
decreases-loop-record g l = length l.rest
