use Rattle.std.proofs.Common.{ℕ, ap, ◌∙◌, rules}
use Rattle.std.specs.Prelude.{◌==◌}
use Rattle.std.specs.List.{list_any}
use Rattle.std.specs.Ordering.{nat_cmp}
use Rattle.std.specs.Cmp.Lexicographic.{slice_cmp}
use Rattle.std.specs.BTreeSet.{contains}
use Rattle.ddt_register.specs.declared.zone.Zone.{Zone}
use Rattle.ddt_compile.specs.Lists.{list_at}
use Rattle.ddt_organisations.proofs.FaultLemmas.{do_meet, more_of_one, told_of_one}
use Rattle.ddt_organisations.proofs.faults.push_faults.Goals as goal

pub push_seams-requires : goal.push_seams-requires
push_seams-requires c = λ other found.
    let numbers = list_at (slice_cmp nat_cmp) c.args.runners.now in
    let meet = do_meet c.args.all.now c.args.number c.args.organisation.now c.requires.number numbers c.requires.runners
    c.in_ok-delegations.delegations c.in_ok-delegations.ensures (contains nat_cmp c.in_ok-others.others)
    (λ m. c.in_ok-others.ensures m
    ∙ ap (list_any (λ (z : Zone). list_any (λ (k : ℕ). k == m) (numbers z.group))) c.deref.ensures.value) other found in
    search rules

pub returns : goal.returns
returns c =
    let all = c.args.all.now in
    let n = c.args.number in
    let o = c.args.organisation.now in
    let numbers = list_at (slice_cmp nat_cmp) c.args.runners.now in
    let d = c.in_ok-delegations.delegations in
    let f0 = c.args.faults.now.items in
    let f1 = c.push_inside.new.faults.items in
    let f2 = c.push_not_run.new.faults.items in
    let f3 = c.push_seams.new.faults.items in
    let others = contains nat_cmp c.in_ok-others.others in
    let is = λ (m : ℕ). c.in_ok-others.ensures m
    ∙ ap (list_any (λ (z : Zone). list_any (λ (k : ℕ). k == m) (numbers z.group))) c.deref.ensures.value in
    record {
      more = more_of_one all n o c.requires.number numbers c.requires.runners d c.in_ok-delegations.ensures f0 f1 f2
          c.in_ok-push_inside.ensures c.in_ok-push_not_run.ensures f3 c.in_ok-push_seams.ensures.more others is
          c.in_ok-push_seams.ensures.told;
      told = told_of_one all n o c.requires.number numbers c.requires.runners d c.in_ok-delegations.ensures f0 f1 f2
          c.in_ok-push_inside.ensures c.in_ok-push_not_run.ensures f3 c.in_ok-push_seams.ensures.more others is
          c.in_ok-push_seams.ensures.told;
    }
