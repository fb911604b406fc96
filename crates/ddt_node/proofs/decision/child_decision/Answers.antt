use Rattle.std.proofs.Common.{Some, List, ℕ, ap, sym, ◌∙◌}
use Rattle.std.proofs.lemmas.Bool.{false≢true}
use Rattle.std.specs.Option.{option_map}
use Rattle.ddt_path.specs.Path.{xeid_path}
use Rattle.ddt_path.specs.Records.{referral}
use Rattle.ddt_config.specs.Answer.{referral_to}
use Rattle.ddt_config.specs.declared.child.Child.{Child}
use Rattle.ddt_node.specs.declared.delegations.ReferralSet.{ReferralSet}
use Rattle.ddt_node.proofs.PlaceLemmas.{longest_item, longest_place, no_longest_place}
use Rattle.ddt_node.proofs.decision.child_decision.Goals as goal

pub set_at-set-requires : goal.set_at-set-requires
set_at-set-requires g c =
    (longest_place (λ (d : Child). d.prefix) (xeid_path c.args.x) c.args.children.now _ c.requires _ _ c.in-Some.ensures.longest).0

pub returns-in-Some-clause-record : goal.returns-in-Some-clause-record
returns-in-Some-clause-record g c servers =
    let found = longest_item (λ (d : Child). d.prefix) (xeid_path c.args.x) c.args.children.now _ c.requires _ _ c.in-Some.ensures.longest in
    let child = found.0 in
    let set = c.set_at-set.ensures child found.1 in
    let record_is =
    ap (λ (s : ReferralSet). referral s.role c.in-Some.found.0 s.locators) set
    ∙ ap (λ (p : List ℕ). referral child.role p child.locators) found.3 in
    ap (λ r. Some r) record_is ∙ sym (ap (option_map referral_to) found.2)

pub returns-in-None-clause-none : goal.returns-in-None-clause-none
returns-in-None-clause-none g c =
    no_longest_place (λ (d : Child). d.prefix) (xeid_path c.args.x) c.args.children.now _ c.requires (λ k. absurd (false≢true (c.in-None.ensures.covered k)))
