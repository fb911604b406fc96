-- What is said of a seam.
use Rattle.std.proofs.Common.{◌≡◌, ℕ, Bool, true, false, List, map, sym, ap, ◌∙◌}
use Rattle.std.specs.List.{list_all}
use Rattle.std.proofs.lemmas.Bool.{false≢true, both_ways}
use Rattle.ddt_register.specs.declared.register.Register.{Register}
use Rattle.ddt_check.specs.declared.fault.Rule.{Rule}
use Rattle.ddt_check.specs.Rules.{IsAccepted, IsLeastFault, broken}
use Rattle.ddt_organisations.specs.declared.seam.runs_by_group.GroupRun.{GroupRun}
use Rattle.ddt_organisations.specs.Seam.Joined.{IsJoined}
use Rattle.ddt_organisations.specs.Seam.Seam.{run_of, is_good_run, is_good_seam}
use Rattle.ddt_organisations.specs.Seam.Verdict.{IsSaid}

-- a register with a fault isn't accepted
pub said_refused : (foreign : List ℕ → Bool) (ours theirs joined : Register) (rule : Rule) (row : ℕ)
    → IsJoined ours theirs joined → IsLeastFault joined rule row → IsSaid foreign ours theirs false
said_refused foreign ours theirs joined rule row is fault = (
  joined,
  is,
  ((λ e. absurd (false≢true e)), (λ good. absurd (both_ways (broken joined rule row) (good.0 rule row) fault.breaks))),
)

-- an accepted one is good as its runs are
pub said_joined : (foreign : List ℕ → Bool) (ours theirs joined : Register) (runs : List GroupRun) (good : Bool)
    → IsJoined ours theirs joined → IsAccepted joined → runs ≡ map (run_of foreign ours theirs joined) joined.groups
    → good ≡ list_all is_good_run runs → IsSaid foreign ours theirs good
said_joined foreign ours theirs joined runs good is accepted are e =
    let same : good ≡ is_good_seam foreign ours theirs joined = e ∙ ap (list_all is_good_run) are in
    (joined, is, ((λ t. (accepted, sym same ∙ t)), (λ both. same ∙ both.1)))
