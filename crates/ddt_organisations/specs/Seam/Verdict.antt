-- What is found of two registers.
use Rattle.std.specs.Prelude.{◌≡◌, ◌<◌, ◌↔◌, ℕ, Bool, true, IsTrue, List, map}
use Rattle.ddt_register.specs.declared.register.Register.{Register}
use Rattle.ddt_register.specs.Rows.{most_rows}
use Rattle.ddt_check.specs.Rules.{IsAccepted, IsLeastFault}
use Rattle.ddt_organisations.specs.declared.seam.verdict.Verdict.{Verdict}
use Rattle.ddt_organisations.specs.declared.seam.verdict.Verdict.TheVariants.{TooManyRows, Refused, Joined}
use Rattle.ddt_organisations.specs.Seam.Joined.{IsJoined, joined_rows}
use Rattle.ddt_organisations.specs.Seam.Seam.{run_of, is_good_seam}

-- The rows of both make an accepted register, and these are the runs of its groups; or they break a rule; or they are
-- more than a register may have.
abbrev pub IsVerdict : (List ℕ → Bool) → Register → Register → Verdict → Type 0
IsVerdict foreign ours theirs TooManyRows = most_rows < joined_rows ours theirs
IsVerdict foreign ours theirs (Refused joined fault) = IsJoined ours theirs joined
    × IsLeastFault joined fault.rule fault.row
IsVerdict foreign ours theirs (Joined joined runs) = IsJoined ours theirs joined × IsAccepted joined
    × (runs.items ≡ map (run_of foreign ours theirs joined) joined.groups)

-- The rows of both make a joined register, and the seam is said to be good if and only if this is accepted and the seam
-- is.
abbrev pub IsSaid : (List ℕ → Bool) → Register → Register → Bool → Type 0
IsSaid foreign ours theirs good = (joined : Register) × IsJoined ours theirs joined
    × ((good ≡ true) ↔ (IsAccepted joined × IsTrue (is_good_seam foreign ours theirs joined)))
