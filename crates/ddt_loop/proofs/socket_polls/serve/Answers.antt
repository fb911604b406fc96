use Rattle.std.proofs.Common.{ℕ, List, [], ◌∷◌, refl, sym, ap, ◌∙◌, Option, Some, None}
use Rattle.std.specs.Prelude.{◌≢◌, option_and_then}
use Rattle.ddt_config.specs.Table.{Outline}
use Rattle.ddt_ecm.specs.Request.{Message}
use Rattle.ddt_node.specs.Server.{ddt_request, handled_as}
use Rattle.ddt_sim.specs.Compiled.{server_at}
use Rattle.ddt_sockets.specs.declared.wire_calls.Call.TheVariants.{Tried}
use Rattle.ddt_sockets.specs.laws.Tell.{tells_none}
use Rattle.ddt_sockets.specs.laws.Turn.{reply_tried}
use Rattle.ddt_loop.specs.Polls.{served, out_of_memory}
use Rattle.ddt_loop.proofs.socket_polls.serve.Goals as goal

pub returns-in-Ok-Some : goal.returns-in-Ok-Some
returns-in-Ok-Some g c =
    let bytes = c.as_slice.result.now in
    let tries = Tried c.args.at c.args.packet.from c.args.packet.port bytes c.send-sent.result ∷ [] in (
      tries,
      c.send-sent.ensures.told,
      served c.args.packet c.args.bytes.now (Some c.in-Ok-Some.reply) tries
          (sym c.in-Ok-Some.field-0-is ∙ c.in-Ok-Some.ensures.reply)
          (reply_tried c.args.at c.args.packet (Some c.in-Ok-Some.reply) bytes c.send-sent.result (ap Some (sym c.as_slice.ensures))) refl,
    )

pub returns-in-Ok-None : goal.returns-in-Ok-None
returns-in-Ok-None g c = ([], tells_none _, served c.args.packet c.args.bytes.now None [] (sym c.in-Ok-None.field-0-is ∙ c.in-Ok-None.ensures.reply) tt refl)

-- the server that is found replies to a DDT Map-Request
replied : (bytes : List ℕ) (found : Option Outline) (request : Option Message) → found ≢ None → request ≢ None
    → option_and_then (λ c. (handled_as c bytes request).reply) found ≢ None
replied bytes None request there asked = absurd (there refl)
replied bytes (Some c) None there asked = absurd (asked refl)
replied bytes (Some c) (Some m) there asked = λ none. cc

pub returns-in-Err : goal.returns-in-Err
returns-in-Err g c = (
  [],
  tells_none _,
  out_of_memory c.args.packet c.args.bytes.now
      (replied c.args.bytes.now (server_at c.args.servers.now c.args.at) (ddt_request c.args.bytes.now)
      (λ none. let nothing = c.in-Err.ensures.none none in cc) (λ none. let nothing = c.in-Err.ensures.ignored none in cc)) refl,
)
