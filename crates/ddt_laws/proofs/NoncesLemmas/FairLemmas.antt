-- What is fair on the wires below is fair to whoever calls wires with random nonces.
use Rattle.std.proofs.Common.{◌≡◌, ℕ, ◌∷◌, Some, Ok, refl, ap, subst, ◌∙◌, Contains}
use Rattle.std.proofs.lemmas.List.Elements.{Contains-append_left}
use Rattle.ddt_path.specs.Path.{xeid_path}
use Rattle.ddt_check.specs.Says.{says}
use Rattle.ddt_sockets.specs.declared.wire_calls.Call.{Call}
use Rattle.ddt_sockets.specs.declared.wire_calls.Call.TheVariants.{Received}
use Rattle.ddt_resolver.specs.MatchReply.{TellsReply}
use Rattle.ddt_sockets.specs.Nonces.Translation.{IsAsked}
use Rattle.ddt_laws.specs.Nonces.Replies.{renamed}
use Rattle.ddt_laws.specs.Nonces.Runs.{TranslatedPacketsAreFair}
use Rattle.ddt_laws.proofs.NoncesLemmas.LiftLemmas.{replies_awaited}

pub fair_translated : TranslatedPacketsAreFair
fair_translated r me plain wire sent translates once fair earlier later room p bytes nonce rec x is port told asked =
    let a = replies_awaited plain wire sent translates earlier later me room p bytes told.message is told.spells in
    let all_of : (call : Call) → Contains earlier call → Contains plain call = λ call k. rw is (Contains-append_left earlier (Received me room (Ok (Some p)) bytes ∷ later) call k) in
    let its = subst (λ (n : ℕ). IsAsked a.asked.bytes n a.x) told.same_nonce a.asked.asked in
    let one_x : xeid_path a.x ≡ xeid_path x = once p.from p.from nonce x a.x a.asked.bytes a.asked.answer (asked.0, all_of _ asked.1) (all_of _ a.asked.tried) its in
    let tells : TellsReply a.bytes a.nonce rec = record { message = renamed told.message a.nonce; spells = a.spells; same_nonce = refl; same_record = told.same_record } in
    fair a.before a.after room p a.bytes a.nonce rec a.x a.came a.from_server tells a.went_out ∙ ap (says r p.from) one_x
