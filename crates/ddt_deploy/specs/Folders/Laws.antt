-- What holds of each plan that is carried out, and of each order of rows.
use Rattle.std.specs.Prelude.{◌≡◌, ◌≢◌, ℕ, Bool, if◌then◌else◌, List, ◌++◌, Contains, Option, None, Some, IsTrue, IsSomeAnd}
use Rattle.std.specs.List.{flat_map}
use Rattle.std.specs.Option.{option_map}
use Rattle.ddt_register.specs.declared.group.Group.{Group}
use Rattle.ddt_register.specs.declared.register.Register.{Register}
use Rattle.ddt_check.specs.Rules.{IsAccepted}
use Rattle.ddt_config.specs.Table.{Outline}
use Rattle.ddt_compile.specs.GroupConfig.{group_config}
use Rattle.ddt_compile.specs.laws.Statements.{IsShapedConfig}
use Rattle.ddt_plan.specs.Groups.{is_same_config}
use Rattle.ddt_deploy.specs.declared.folders.file_name.FileName.{FileName}
use Rattle.ddt_deploy.specs.declared.folders.file_name.FileName.TheVariants.{Register as OfRegister, Config, Manifest}
use Rattle.ddt_deploy.specs.declared.folders.step.NamedFile.{NamedFile}
use Rattle.ddt_deploy.specs.declared.folders.step.ListedConfig.{ListedConfig}
use Rattle.ddt_deploy.specs.declared.folders.plan.Plan.{Plan}
use Rattle.ddt_deploy.specs.Folders.Contents.{Contents}
use Rattle.ddt_deploy.specs.Folders.Steps.{after}
use Rattle.ddt_deploy.specs.Folders.Manifest.{digits_of, manifest_text, kept_line, IsListedAs}
use Rattle.ddt_deploy.specs.Folders.Ordered.{ordered}
use Rattle.ddt_deploy.specs.Folders.Plans.{IsPlan}
use Rattle.ddt_deploy.specs.Folders.Wanted.{IsOrderedConfigText, our_groups, our_group, IsGone, last_manifest}

-- alike configurations of one name are one in the order of prefixes
abbrev pub OrderDoesNotMatter : Type 0
OrderDoesNotMatter =
    (c d : Outline) → IsShapedConfig c → IsShapedConfig d → c.name ≡ d.name → IsTrue (is_same_config c d)
    → ordered c ≡ ordered d

-- A configuration that a manifest lists so, and that has other bytes.
pub record IsAltered (manifest : List ℕ) (t : Contents) (c : ListedConfig) : Type 0 where
  pub listed : IsListedAs manifest c.name c.digits
  pub bytes : List ℕ
  pub there : t.files (Config c.name) ≡ Some bytes
  pub differ : digits_of bytes ≢ c.digits

-- The folder has the files that the manifest lists, with these bytes, and lists the configuration of each of our
-- groups. What the last manifest says of a configuration that somebody altered since, this one says too.
pub record IsTrueManifest (foreign : List ℕ → Bool) (r : Register) (s t : Contents) : Type 0 where
  pub files : List NamedFile
  pub altered : List ListedConfig
  pub stands : t.files Manifest ≡ Some (manifest_text files ++ flat_map kept_line altered)
  pub there : (file : NamedFile) → Contains files file → t.files file.name ≡ Some file.bytes
  pub kept : (c : ListedConfig) → Contains altered c → IsAltered (last_manifest s.files) t c
  pub groups : (g : Group) → Contains (our_groups foreign r) g → (bytes : List ℕ)
      × Contains files (record { name = Config g.name; bytes = bytes })

-- a manifest lists a configuration with the digits of its own bytes, and with no others
abbrev pub IsAsListed : (FileName → Option (List ℕ)) → List ℕ → Type 0
IsAsListed files name = (digits : List ℕ) → IsListedAs (last_manifest files) name digits
    → option_map digits_of (files (Config name)) ≡ Some digits

-- a configuration may be removed: it is there, and listed with the digits of its bytes
abbrev pub IsRemovable : (FileName → Option (List ℕ)) → List ℕ → Type 0
IsRemovable files name = (bytes : List ℕ) × (files (Config name) ≡ Some bytes)
    × IsListedAs (last_manifest files) name (digits_of bytes)

-- What a folder has of a register, where it had other files before, and where others run the groups of some names.
pub record IsPublished (foreign : List ℕ → Bool) (r : Register) (register : List ℕ) (removes : Bool) (s t : Contents)
    : Type 0 where
  pub source : t.files OfRegister ≡ Some register
  pub configs : (g : Group) → Contains (our_groups foreign r) g
      → IsSomeAnd (t.files (Config g.name)) (IsOrderedConfigText (group_config r g))
  pub manifest : IsTrueManifest foreign r s t
  pub gone : (name : List ℕ) → IsGone foreign r s.files name → IsAsListed s.files name
      → t.files (Config name) ≡ (if removes then None else s.files (Config name))
  pub others : (name : List ℕ) → our_group foreign r name ≡ None → ¬ (IsTrue removes × IsRemovable s.files name)
      → t.files (Config name) ≡ s.files (Config name)

-- a plan that is carried out publishes the register
abbrev pub PlansPublish : Type 0
PlansPublish =
    (foreign : List ℕ → Bool) (r : Register) (register : List ℕ) (removes : Bool) (s : Contents) (plan : Plan)
    → IsAccepted r → IsPlan foreign r register removes s.files plan
    → IsPublished foreign r register removes s (after plan.steps s)
