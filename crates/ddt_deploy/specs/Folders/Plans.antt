-- The plan of what is to be done with a folder, and what comes of it.
use Rattle.std.specs.Prelude.{◌≡◌, ◌⊎◌, ℕ, Bool, List, [], ◌∷◌, ◌++◌, map, Option, Result, Ok, Err}
use Rattle.ddt_register.specs.declared.register.Register.{Register}
use Rattle.ddt_deploy.specs.declared.folders.file_name.FileName.{FileName}
use Rattle.ddt_deploy.specs.declared.folders.fault.PublishFault.{PublishFault}
use Rattle.ddt_deploy.specs.declared.folders.fault.PublishFault.TheVariants.{Memory, Failed}
use Rattle.ddt_deploy.specs.declared.folders.file_name.FileName.TheVariants.{Config}
use Rattle.ddt_deploy.specs.declared.folders.step.NamedFile.{NamedFile}
use Rattle.ddt_deploy.specs.declared.folders.step.ListedConfig.{ListedConfig}
use Rattle.ddt_deploy.specs.declared.folders.step.Step.{Step}
use Rattle.ddt_deploy.specs.declared.folders.plan.Plan.{Plan}
use Rattle.ddt_deploy.specs.Folders.Contents.{Contents}
use Rattle.ddt_deploy.specs.Folders.Steps.{after, HasStopped}
use Rattle.ddt_deploy.specs.Folders.Wanted.{register_file, steps_for, same_in, removals, left_of, manifest_file, AreGroupFiles, AreGoneFiles}

-- What is done so that a folder has these files and a manifest of them, with those that are left: first what is
-- written, then what is removed, then the manifest. Altered ones are left too, and keep the lines that they have.
abbrev pub plan_of : (FileName → Option (List ℕ)) → Bool → List NamedFile → List NamedFile → List ListedConfig → Plan
plan_of files removes wanted gone altered =
    let manifest = manifest_file (wanted ++ left_of removes gone) altered in
    record {
      steps = steps_for files wanted ++ removals removes gone ++ steps_for files (manifest ∷ []);
      same = same_in files wanted ++ same_in files (manifest ∷ []);
      left = map (λ file. file.name) (left_of removes gone);
      altered = map (λ listed. Config listed.name) altered;
    }

-- the plan for a register over what a folder has, where others run the groups of some names
pub record IsPlan (foreign : List ℕ → Bool) (r : Register) (register : List ℕ) (removes : Bool)
    (files : FileName → Option (List ℕ)) (plan : Plan) : Type 0 where
  pub configs : List NamedFile
  pub are_configs : AreGroupFiles foreign r configs
  pub gone : List NamedFile
  pub altered : List ListedConfig
  pub are_gone : AreGoneFiles foreign r files gone altered
  pub is : plan ≡ plan_of files removes (register_file register ∷ configs) gone altered

module _ {F E : Type 0} (holds : F → Contents → Type 0) where
  -- all steps were taken, or one failed
  abbrev pub HasCarriedOut : List Step → Contents → Result (Unit {0}) (PublishFault E) → F → Type 0
  HasCarriedOut steps s (Ok all) folder = holds folder (after steps s)
  HasCarriedOut steps s (Err Memory) folder = ⊥
  HasCarriedOut steps s (Err (Failed name why)) folder =
      (t : Contents) × holds folder t × HasStopped steps name s t

  -- The plan was carried out, or nothing was touched, or a step of the plan failed.
  abbrev pub HasPublished : (List ℕ → Bool) → Register → List ℕ → Bool → Contents
      → Result Plan (PublishFault E) → F → Type 0
  HasPublished foreign r register removes s (Ok plan) folder =
      IsPlan foreign r register removes s.files plan × holds folder (after plan.steps s)
  HasPublished foreign r register removes s (Err Memory) folder = holds folder s
  HasPublished foreign r register removes s (Err (Failed name why)) folder =
      holds folder s
      ⊎ ((plan : Plan) × IsPlan foreign r register removes s.files plan
      × ((t : Contents) × holds folder t × HasStopped plan.steps name s t))
