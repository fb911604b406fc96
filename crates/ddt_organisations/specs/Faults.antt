-- What is wrong with organisations that make no tree. They go by their numbers, from 0.
use Rattle.std.specs.Prelude.{◌≡◌, ◌⊎◌, ◌<◌, ℕ, Bool, true, false, List, [], ◌∷◌, map, Option, None, Some, Contains, IsTrue}
use Rattle.ddt_register.specs.declared.zone.Zone.{Zone}
use Rattle.ddt_register.specs.declared.register.Register.{Register}
use Rattle.ddt_register.specs.Rows.{most_rows}
use Rattle.ddt_check.specs.Rules.{IsAccepted}
use Rattle.ddt_organisations.specs.Seam.Joined.{IsJoined, joined_rows}
use Rattle.ddt_organisations.specs.Seam.Seam.{is_good_seam}
use Rattle.ddt_organisations.specs.declared.organisation as code
use Rattle.ddt_organisations.specs.declared.faults.TreeFault.{TreeFault}
use Rattle.ddt_organisations.specs.declared.faults.TreeFault.TheVariants.{RootNotRun, Inside, NobodyRuns, BadSeam, TooManyRows}
use Rattle.ddt_organisations.specs.Tree.{Organisation, HaveGoodSeam, IsTree}
use Rattle.ddt_organisations.specs.Laws.{EndsInCharge}
use Rattle.ddt_organisations.specs.Meets.{seen, is_delegated, is_inside, is_run_by_some, runs_root, meets}
use Rattle.ddt_organisations.specs.Found.{IsNumber}

-- there is a first organisation, and it runs the root
abbrev pub first_runs_root : List code.Organisation.Organisation → Bool
first_runs_root [] = false
first_runs_root (top ∷ others) = runs_root (seen top)

-- Two organisations meet, and their seam isn't good: the rows of both break a rule, or some group can't be run.
pub record HaveBadSeam (o other : Organisation) : Type 0 where
  pub they_meet : meets o other ≡ true
  pub joined : Register
  pub is_joined : IsJoined o.register other.register joined
  pub is_bad : ¬ (IsAccepted joined × IsTrue (is_good_seam other.runs o.register other.register joined))

-- Two organisations meet, and their registers have more rows together than one may have.
abbrev pub HaveTooManyRows : Organisation → Organisation → Type 0
HaveTooManyRows o other = (meets o other ≡ true) × (most_rows < joined_rows o.register other.register)

-- the numbers are those of two organisations of which this holds
abbrev pub HoldsOfTwo : (Organisation → Organisation → Type 0) → List code.Organisation.Organisation → ℕ → ℕ → Type 0
HoldsOfTwo P all n m = (o other : code.Organisation.Organisation) × IsNumber all n o × IsNumber all m other
    × P (seen o) (seen other)

-- the number and the row are those of an organisation and of a zone of its register, of which this holds
abbrev pub HoldsOfZone : (Organisation → Zone → Type 0) → List code.Organisation.Organisation → ℕ → ℕ → Type 0
HoldsOfZone P all n row = (o : code.Organisation.Organisation) × (z : Zone) × IsNumber all n o
    × Contains o.register.zones z × (z.row ≡ row) × P (seen o) z

-- a fault is true of the organisations and of the row that it names
abbrev pub IsTrueFault : List code.Organisation.Organisation → TreeFault → Type 0
IsTrueFault all RootNotRun = first_runs_root all ≡ false
IsTrueFault all (Inside n row) = HoldsOfZone (λ o z. is_inside o z ≡ true) all n row
IsTrueFault all (NobodyRuns n row) =
    HoldsOfZone (λ o z. (is_delegated o z ≡ true) × (is_run_by_some all z.group ≡ false)) all n row
IsTrueFault all (BadSeam n m lines) = HoldsOfTwo HaveBadSeam all n m
IsTrueFault all (TooManyRows n m) = HoldsOfTwo HaveTooManyRows all n m

-- a fault of the seam of two organisations
abbrev pub IsOfSeam : ℕ → ℕ → TreeFault → Type 0
IsOfSeam n m RootNotRun = ⊥
IsOfSeam n m (Inside i row) = ⊥
IsOfSeam n m (NobodyRuns i row) = ⊥
IsOfSeam n m (BadSeam i j lines) = (i ≡ n) × (j ≡ m)
IsOfSeam n m (TooManyRows i j) = (i ≡ n) × (j ≡ m)

-- the seam of two is good, or the list has a fault of it
abbrev pub IsSeamTold : Organisation → Organisation → ℕ → ℕ → List TreeFault → Type 0
IsSeamTold o other n m faults =
    HaveGoodSeam o other ⊎ ((f : TreeFault) × Contains faults f × IsOfSeam n m f)

-- the list has all faults of an organisation
pub record IsToldOf (all : List code.Organisation.Organisation) (n : ℕ) (o : code.Organisation.Organisation)
    (faults : List TreeFault) : Type 0 where
  pub inside : (z : Zone) → Contains o.register.zones z → is_inside (seen o) z ≡ true
      → Contains faults (Inside n z.row)
  pub not_run : (z : Zone) → Contains o.register.zones z → is_delegated (seen o) z ≡ true
      → is_run_by_some all z.group ≡ false → Contains faults (NobodyRuns n z.row)
  pub seams : (m : ℕ) (other : code.Organisation.Organisation) → IsNumber all m other
      → meets (seen o) (seen other) ≡ true → IsSeamTold (seen o) (seen other) n m faults

-- What is wrong with organisations: each fault is true, and the list has all of them.
pub record AreTreeFaults (all : List code.Organisation.Organisation) (faults : List TreeFault) : Type 0 where
  pub are_true : (f : TreeFault) → Contains faults f → IsTrueFault all f
  pub root : first_runs_root all ≡ false → Contains faults RootNotRun
  pub each : (n : ℕ) (o : code.Organisation.Organisation) → IsNumber all n o → IsToldOf all n o faults

-- the organisations make a tree below the first
abbrev pub MakeTree : List code.Organisation.Organisation → Type 0
MakeTree [] = ⊥
MakeTree (top ∷ others) = IsTree (seen top) (map seen (top ∷ others))

-- referrals from the root of the first end in what the register in charge assigns
abbrev pub IsFollowed : List code.Organisation.Organisation → Type 0
IsFollowed [] = ⊥
IsFollowed (top ∷ others) = EndsInCharge (seen top) (map seen (top ∷ others))

-- ---- what is told so far

-- what was told is told, and what is new is true
pub record AreMore (all : List code.Organisation.Organisation) (before faults : List TreeFault) : Type 0 where
  pub kept : (f : TreeFault) → Contains before f → Contains faults f
  pub fresh : (f : TreeFault) → Contains faults f → Contains before f ⊎ IsTrueFault all f

-- a zone inside what is delegated, and a delegated one that nobody runs, as they are told
abbrev pub inside_at : ℕ → Zone → TreeFault
inside_at n z = Inside n z.row

abbrev pub nobody_at : ℕ → Zone → TreeFault
nobody_at n z = NobodyRuns n z.row

-- an organisation meets another
abbrev pub DoMeet : List code.Organisation.Organisation → ℕ → ℕ → Type 0
DoMeet all n m = (o other : code.Organisation.Organisation) → IsNumber all n o → IsNumber all m other
    → meets (seen o) (seen other) ≡ true

-- the pairs of numbers of which the first organisation meets the second
pub record AreSeams (all : List code.Organisation.Organisation) (pairs : List (ℕ × ℕ)) : Type 0 where
  pub they_meet : (n m : ℕ) → Contains pairs (n, m) → DoMeet all n m
  pub each : (n m : ℕ) (o other : code.Organisation.Organisation) → IsNumber all n o → IsNumber all m other
      → meets (seen o) (seen other) ≡ true → Contains pairs (n, m)

abbrev pub pair_with : ℕ → ℕ → ℕ × ℕ
pair_with n m = (n, m)

-- what is found of the seam of two that meet
abbrev pub IsSeamFault : List code.Organisation.Organisation → ℕ → ℕ → Option TreeFault → Type 0
IsSeamFault all n m None = (o other : code.Organisation.Organisation) → IsNumber all n o → IsNumber all m other
    → HaveGoodSeam (seen o) (seen other)
IsSeamFault all n m (Some f) = IsTrueFault all f × IsOfSeam n m f

-- the seam of two numbers is good, or the list has a fault of it
abbrev pub IsPairTold : List code.Organisation.Organisation → ℕ → ℕ → List TreeFault → Type 0
IsPairTold all n m faults = (o other : code.Organisation.Organisation) → IsNumber all n o → IsNumber all m other
    → IsSeamTold (seen o) (seen other) n m faults

-- so it is of an organisation with each of some others
abbrev pub AreSeamsTold : List code.Organisation.Organisation → ℕ → (ℕ → Bool) → List TreeFault → Type 0
AreSeamsTold all n others faults = (m : ℕ) → others m ≡ true → IsPairTold all n m faults
