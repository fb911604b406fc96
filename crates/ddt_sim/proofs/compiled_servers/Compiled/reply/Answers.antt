use Rattle.std.proofs.Common.{◌≡◌, Some, sym, ap, subst, ◌∙◌}
use Rattle.std.specs.Prelude.{IfOk}
use Rattle.std.specs.Option.{option_copied}
use Rattle.ddt_path.specs.Path.{xeid_path}
use Rattle.ddt_path.specs.declared.record.ReferralRecord.{ReferralRecord}
use Rattle.ddt_wire.specs.Referral.{message_of}
use Rattle.ddt_node.specs.Server.{HasReply}
use Rattle.ddt_sim.specs.Compiled.{server_at}
use Rattle.ddt_sim.proofs.CompiledLemmas.{found_is_server, honest_server, server_is_there}
use Rattle.ddt_sim.proofs.compiled_servers.Compiled.reply.Goals as goal

pub returns-in-Some-clause-says : goal.returns-in-Some-clause-says
returns-in-Some-clause-says g c = λ r m compiled known asked.
    let s = c.in-Some.server.now in
    let law = c.a_compiled_configuration_answers_honestly.ensures.honest in
    let found : server_at c.args.self.now c.args.to ≡ Some s = sym c.server_at.ensures ∙ ap option_copied c.in-Some.is in
    let same = honest_server law r c.args.self.now compiled c.args.to s (xeid_path m.xeid) found in
    subst (λ (v : ReferralRecord). IfOk c.reply.result (λ reply. HasReply reply (message_of m.nonce v))) same (c.reply.ensures.replied m asked)

pub returns-in-None-clause-says : goal.returns-in-None-clause-says
returns-in-None-clause-says g c = λ r m compiled known asked.
    server_is_there c.a_compiled_configuration_answers_honestly.ensures.honest r c.args.self.now compiled c.args.to known (sym c.server_at.ensures ∙ ap option_copied c.in-None.is)

pub returns-in-Some-clause-nothing : goal.returns-in-Some-clause-nothing
returns-in-Some-clause-nothing g c = λ r compiled none.
    absurd (none (found_is_server r c.args.self.now compiled c.args.to c.in-Some.server.now (sym c.server_at.ensures ∙ ap option_copied c.in-Some.is)))
