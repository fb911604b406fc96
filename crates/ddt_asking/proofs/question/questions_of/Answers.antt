use Rattle.std.proofs.Common.{◌≡◌, ◌<◌, true, length, sym, subst, ◌∙◌}
use Rattle.ddt_path.specs.declared.record.ReferralRecord.{ReferralRecord}
use Rattle.ddt_path.specs.Path.{xeid_path}
use Rattle.ddt_asking.specs.Questions.{refers, root_referral, AreBehind}
use Rattle.ddt_asking.proofs.QuestionLemmas.{steps_left, led_at_root, servers_there, led_on, leads_on_less, behind_on, behind_at_end}
use Rattle.ddt_asking.proofs.question.questions_of.Goals as goal

pub loop-x-init : goal.loop-x-init
loop-x-init c =
    let r = c.args.accepted.now in
    let x = xeid_path c.args.x in
    let root = c.each_identifier_has_a_zone.ensures.root r c.register-register.ensures.accepted in record {
      behind = λ later is. rw c.new-questions.ensures.items
          (subst (λ (v : ReferralRecord). AreBehind r x v later) c.root_referral-referral.ensures is);
      led = λ refer. rw c.root_referral-referral.ensures (led_at_root r x root);
    }

pub said_by-referral-requires : goal.said_by-referral-requires
said_by-referral-requires c =
    let r = c.args.accepted.now in
    let served = c.each_zone_has_servers.ensures.served r c.register-register.ensures.accepted in
    let refer : refers c.loop-x.referral.action ≡ true = sym c.refers.ensures ∙ c.loop-x-test.true in
    (servers_there r (xeid_path c.args.x) c.loop-x.referral (c.loop-x.invariant.led refer) served).0

pub loop-x-preserved : goal.loop-x-preserved
loop-x-preserved c =
    let r = c.args.accepted.now in
    let x = xeid_path c.args.x in
    let accepted = c.register-register.ensures.accepted in
    let served = c.each_zone_has_servers.ensures.served r accepted in
    let zones = c.honest_servers_lead_to_the_assignment.ensures.to_zones r accepted in
    let refer : refers c.loop-x.referral.action ≡ true = sym c.refers.ensures ∙ c.loop-x-test.true in record {
      behind = λ later is. behind_on r x (root_referral r) c.loop-x.referral c.loop-x.questions.items
          c.push_set.new.questions.items refer c.loop-x.invariant.behind c.in_ok-push_set.ensures later
          (subst (λ (v : ReferralRecord). AreBehind r x v later) c.said_by-referral.ensures is);
      led = λ again. rw c.said_by-referral.ensures
          (led_on r x c.loop-x.referral (c.loop-x.invariant.led refer) served zones
          (subst (λ (v : ReferralRecord). refers v.action ≡ true) c.said_by-referral.ensures again));
    }

pub loop-x-smaller : goal.loop-x-smaller
loop-x-smaller c =
    let r = c.args.accepted.now in
    let x = xeid_path c.args.x in
    let accepted = c.register-register.ensures.accepted in
    let laws = c.honest_servers_lead_to_the_assignment.ensures in
    let refer : refers c.loop-x.referral.action ≡ true = sym c.refers.ensures ∙ c.loop-x-test.true in
    subst
    (λ (v : ReferralRecord). steps_left (length x) v < steps_left (length x) c.loop-x.referral)
    (sym c.said_by-referral.ensures)
    (leads_on_less r x c.loop-x.referral refer (c.loop-x.invariant.led refer)
    (c.each_zone_has_servers.ensures.served r accepted) (laws.to_zones r accepted) (laws.downwards r accepted))

pub returns : goal.returns
returns c =
    behind_at_end c.args.accepted.now (xeid_path c.args.x) (root_referral c.args.accepted.now) c.loop-x.referral
    c.loop-x.questions.items (sym c.refers.ensures ∙ c.loop-x-test.false) c.loop-x.invariant.behind
