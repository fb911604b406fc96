use Rattle.std.proofs.Common.{refl, sym, ◌∙◌}
use Rattle.ddt_daemon.specs.Spelled.{unasked}
use Rattle.ddt_daemon.proofs.HandleLemmas.{spelled_as}
use Rattle.ddt_daemon.proofs.map_resolver.MapResolver.spelled.Goals as goal

pub returns-in_default-clause-spelled : goal.returns-in_default-clause-spelled
returns-in_default-clause-spelled g c =
    let none = rw c.resolver.ensures at c.in_default.ensures.none in
    unasked (λ t l its. none t l its.0 (its.1 ∙ sym (rw c.split_at.ensures.back at c.read_u64-nonce.ensures))) refl

pub returns-clause-spelled : goal.returns-clause-spelled
returns-clause-spelled g c =
    let asked = rw c.resolver.ensures at c.in-Some.ensures.asked in
    spelled_as c.args.self.now.running.state c.args.bytes.now asked.0 asked.1 c.in-Some.asked c.in_ok-plain.plain
    (asked.2, asked.3 ∙ rw c.split_at.ensures.back at c.read_u64-nonce.ensures) asked.4 c.in_ok-plain.ensures.gives c.in_ok-plain.ensures.none
