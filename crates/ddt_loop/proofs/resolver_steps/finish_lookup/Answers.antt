use Rattle.std.proofs.Common.{[], refl, Some}
use Rattle.ddt_loop.specs.declared.requester.Requester.TheVariants.{Identifier}
use Rattle.ddt_sockets.specs.laws.Tell.{tells_none}
use Rattle.ddt_loop.proofs.resolver_steps.finish_lookup.Goals as goal

pub returns-in-Some-Identifier-clause-settles : goal.returns-in-Some-Identifier-clause-settles
returns-in-Some-Identifier-clause-settles g c =
    let takes = rw c.in-Some-Identifier.field-0-is at c.in-Some-Identifier.ensures.takes in
    let who = Some (Identifier c.in-Some-Identifier.place) in (
      [],
      tells_none _,
      record { rest = c.take.new.self.waiting; taken = who; takes = takes; told = (refl, rw (c.end.ensures, c.take.ensures.ends, c.end_of.ensures)) },
    )

pub returns-in-Some-Identifier-clause-ended : goal.returns-in-Some-Identifier-clause-ended
returns-in-Some-Identifier-clause-ended g c =
    let takes = rw c.in-Some-Identifier.field-0-is at c.in-Some-Identifier.ensures.takes in
    record { taken = Some (Identifier c.in-Some-Identifier.place); takes = rw c.end.ensures takes; is = refl }
