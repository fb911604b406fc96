use Rattle.std.proofs.Common.{[], sym, ◌∙◌}
use Rattle.ddt_sockets.specs.laws.Tell.{tells_none}
use Rattle.ddt_daemon.specs.declared.service.Service.TheVariants.{Client, Itr}
use Rattle.ddt_daemon.proofs.TurnLemmas.{served_as, lost_as, nothing_for, tried_as}
use Rattle.ddt_daemon.proofs.server_round.serve_request.Goals as goal

pub returns-in_default : goal.returns-in_default
returns-in_default g c =
    let role = c.role.ensures in (
      [],
      tells_none _,
      served_as c.args.server.now c.args.door.now.settings.now c.args.door.now.at c.args.packet c.args.bytes.now c.args.request.now
          c.service_for-service.result [] c.requires (rw role at (sym c.service_for-service.ensures))
          (nothing_for c.args.server.now c.args.door.now.at c.args.packet c.args.bytes.now c.args.request.now c.service_for-service.result
          c.in_default.not-Client c.in_default.not-Itr),
    )

pub returns-in-Ok : goal.returns-in-Ok
returns-in-Ok g c =
    let role = c.role.ensures in
    let w = c.send_all.ensures in (
      w.0,
      w.1,
      served_as c.args.server.now c.args.door.now.settings.now c.args.door.now.at c.args.packet c.args.bytes.now c.args.request.now Client w.0
          c.requires (rw role at (sym c.service_for-service.ensures ∙ c.in-Client.is)) (tried_as c.args.door.now.at w.0 c.in-Ok.ensures.reply c.in-Ok.ensures.onward w.2),
    )

pub returns-in-Ok-to_itr : goal.returns-in-Ok-to_itr
returns-in-Ok-to_itr g c =
    let role = c.role.ensures in
    let w = c.send_all-in-Ok-to_itr.ensures in (
      w.0,
      w.1,
      served_as c.args.server.now c.args.door.now.settings.now c.args.door.now.at c.args.packet c.args.bytes.now c.args.request.now Itr w.0
          c.requires (rw role at (sym c.service_for-service.ensures ∙ c.in-Itr.is))
          (tried_as c.args.door.now.at w.0 c.in-Ok-to_itr.ensures.reply c.in-Ok-to_itr.ensures.onward w.2),
    )

pub returns-in-Err : goal.returns-in-Err
returns-in-Err g c =
    let role = c.role.ensures in (
      [],
      tells_none _,
      lost_as c.args.server.now c.args.door.now.settings.now c.args.door.now.at c.args.packet c.args.bytes.now c.args.request.now Client c.requires
          (rw role at (sym c.service_for-service.ensures ∙ c.in-Client.is)) (λ none. cc),
    )

pub returns-in-Err-to_itr : goal.returns-in-Err-to_itr
returns-in-Err-to_itr g c =
    let role = c.role.ensures in (
      [],
      tells_none _,
      lost_as c.args.server.now c.args.door.now.settings.now c.args.door.now.at c.args.packet c.args.bytes.now c.args.request.now Itr c.requires
          (rw role at (sym c.service_for-service.ensures ∙ c.in-Itr.is)) c.in-Err-to_itr.ensures.wanted,
    )
