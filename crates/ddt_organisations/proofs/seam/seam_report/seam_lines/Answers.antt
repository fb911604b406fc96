use Rattle.std.proofs.Common.{ℕ, List, ap, subst, ◌∙◌}
use Rattle.std.specs.List.{list_all}
use Rattle.std.specs.Ordering.{nat_cmp}
use Rattle.std.specs.Cmp.Lexicographic.{slice_cmp}
use Rattle.std.specs.BTreeSet.{contains}
use Rattle.ddt_organisations.specs.Seam.Seam.{is_good_run}
use Rattle.ddt_organisations.specs.Seam.Verdict.{IsVerdict}
use Rattle.ddt_organisations.proofs.SeamLemmas.SaidLemmas.{said_refused, said_joined}
use Rattle.ddt_organisations.proofs.seam.seam_report.seam_lines.Goals as goal

pub returns-in_ok-text-in-Refused : goal.returns-in_ok-text-in-Refused
returns-in_ok-text-in-Refused c =
    let foreign = (λ (name : List ℕ). contains (slice_cmp nat_cmp) c.args.foreign.now name) in
    let found = subst (IsVerdict foreign c.args.ours.now c.args.theirs.now) c.in-Refused.is c.in_ok-seam_verdict.ensures in
    said_refused foreign c.args.ours.now c.args.theirs.now c.in-Refused.joined c.in-Refused.fault.rule
    c.in-Refused.fault.row found.0 found.1

pub returns-in_ok-text-in-Joined : goal.returns-in_ok-text-in-Joined
returns-in_ok-text-in-Joined c =
    let foreign = (λ (name : List ℕ). contains (slice_cmp nat_cmp) c.args.foreign.now name) in
    let found = subst (IsVerdict foreign c.args.ours.now c.args.theirs.now) c.in-Joined.is c.in_ok-seam_verdict.ensures in
    said_joined foreign c.args.ours.now c.args.theirs.now c.in-Joined.joined c.in-Joined.runs.items
    c.is_good-is_good.result found.0 found.1 found.2
    (c.is_good-is_good.ensures ∙ ap (list_all is_good_run) c.deref.ensures.value)
