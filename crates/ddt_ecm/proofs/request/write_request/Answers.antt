use Rattle.std.proofs.Common.{◌≡◌, ◌≤◌, ℕ, List, length, sym, subst, ◌∙◌, Ok}
use Rattle.ddt_ecm.specs.Request.{Spells, message_in}
use Rattle.ddt_ecm.specs.laws.Statements.{message_of}
use Rattle.ddt_ecm.specs.laws.Writing.{request_small}
use Rattle.ddt_ecm.specs.laws.Written.{written_spells, written_is_read}
use Rattle.ddt_ecm.proofs.request.write_request.Goals as goal

pub put_packet-requires : goal.put_packet-requires
put_packet-requires c = subst (λ (m : List ℕ). length m ≤ 1000) (sym (c.as_slice.ensures.value ∙ c.in_ok-message.ensures.written)) (request_small c.args.nonce c.args.x c.args.rlocs.now c.requires.few)

pub returns-clause-spelled : goal.returns-clause-spelled
returns-clause-spelled c =
    let written = rw (c.in_ok-extend_from_slice.ensures.items, c.in_ok-bytes.ensures.items, c.ecm_header.ensures, c.as_slice.ensures.value, c.in_ok-message.ensures.written) at c.in_ok-put_packet.ensures in
    subst (λ (text : List ℕ). Spells text (message_of c.args.nonce c.args.x c.args.rlocs.now c.args.ddt)) (sym written) (written_spells c.args.nonce c.args.x c.args.rlocs.now c.args.ddt c.in_ok-message.ensures.fits)

pub returns-clause-again : goal.returns-clause-again
returns-clause-again c =
    let written = rw (c.in_ok-extend_from_slice.ensures.items, c.in_ok-bytes.ensures.items, c.ecm_header.ensures, c.as_slice.ensures.value, c.in_ok-message.ensures.written) at c.in_ok-put_packet.ensures in
    subst (λ (text : List ℕ). message_in text ≡ Ok (message_of c.args.nonce c.args.x c.args.rlocs.now c.args.ddt)) (sym written) (written_is_read c.args.nonce c.args.x c.args.rlocs.now c.args.ddt c.in_ok-message.ensures.fits)
