use Rattle.std.proofs.Common.{Option, subst}
use Rattle.ddt_organisations.specs.declared.faults.TreeFault.{TreeFault}
use Rattle.ddt_organisations.specs.Faults.{IsSeamFault}
use Rattle.ddt_organisations.proofs.ToldLemmas.{more_refl}
use Rattle.ddt_organisations.proofs.MeetingLemmas.{told_none, told_some, more_some}
use Rattle.ddt_organisations.proofs.faults.push_seam.Goals as goal

pub returns-in_ok-push-in-Some : goal.returns-in_ok-push-in-Some
returns-in_ok-push-in-Some c =
    let all = c.args.all.now in
    let n = c.args.number in
    let m = c.args.other in
    let before = c.args.faults.now.items in
    let f = c.in-Some.fault in
    let faults = c.push.new.self.items in
    let fault = subst (λ (found : Option TreeFault). IsSeamFault all n m found) c.in-Some.is c.in_ok-found.ensures in
    record {
      more = more_some all n m before f faults fault c.in_ok-push-in-Some.ensures.items;
      told = told_some all n m before f faults fault c.in_ok-push-in-Some.ensures.items;
    }

pub returns-in-None : goal.returns-in-None
returns-in-None c =
    let all = c.args.all.now in
    let n = c.args.number in
    let m = c.args.other in
    let before = c.args.faults.now.items in
    record {
      more = more_refl all before;
      told = told_none all n m before
          (subst (λ (found : Option TreeFault). IsSeamFault all n m found) c.in-None.is c.in_ok-found.ensures);
    }
