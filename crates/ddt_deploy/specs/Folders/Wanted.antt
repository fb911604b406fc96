-- Which files a register asks for, and what is to be done with each by what stands in the folder.
use Rattle.std.specs.Prelude.{◌≡◌, ℕ, Bool, true, false, not, if◌then◌else◌, List, [], ◌∷◌, ◌++◌, map, Option, None, Some, is_some, unwrap_or, IsPermutation, IsSorted}
use Rattle.std.specs.List.{filter, find, flat_map}
use Rattle.std.specs.Str.{bytes_eq}
use Rattle.std.specs.Ordering.{nat_cmp}
use Rattle.std.specs.Cmp.Lexicographic.{slice_cmp}
use Rattle.std.specs.BTreeMap.{BTreeMap, IsOrdered}
use Rattle.ddt_path.specs.Names.{is_same_name}
use Rattle.ddt_register.specs.declared.group.Group.{Group}
use Rattle.ddt_register.specs.declared.register.Register.{Register}
use Rattle.ddt_config.specs.declared.config.ServerConfig.{ServerConfig}
use Rattle.ddt_config.specs.Table.{Outline, outline}
use Rattle.ddt_compile.specs.GroupConfig.{group_config}
use Rattle.ddt_config.specs.Digest.Sealed.{IsSealedText}
use Rattle.ddt_deploy.specs.declared.folders.file_name.FileName.{FileName}
use Rattle.ddt_deploy.specs.declared.folders.file_name.FileName.TheVariants.{Register as OfRegister, Config, Manifest}
use Rattle.ddt_deploy.specs.declared.folders.step.NamedFile.{NamedFile}
use Rattle.ddt_deploy.specs.declared.folders.step.ListedConfig.{ListedConfig}
use Rattle.ddt_deploy.specs.declared.folders.step.Step.{Step}
use Rattle.ddt_deploy.specs.declared.folders.step.Step.TheVariants.{Add, Change, Remove}
use Rattle.ddt_deploy.specs.Folders.Manifest.{digits_of, manifest_text, kept_line, IsListedIn, AreConfigsIn}
use Rattle.ddt_deploy.specs.Folders.Ordered.{ordered}

-- ---- what a register asks for

-- the register itself
abbrev pub register_file : List ℕ → NamedFile
register_file register = record { name = OfRegister; bytes = register }

-- a text in TOML of a configuration, in the order of prefixes, with its seal
abbrev pub IsOrderedConfigText : Outline → List ℕ → Type 0
IsOrderedConfigText c text = IsSealedText text (ordered c)

-- the file of a configuration, which is named for its group
abbrev pub IsConfigFile : ServerConfig → NamedFile → Type 0
IsConfigFile c file = (file.name ≡ Config c.name) × IsOrderedConfigText (outline c) file.bytes

-- the files of these configurations, one after the other
abbrev pub AreConfigFiles : List ServerConfig → List NamedFile → Type 0
AreConfigFiles [] [] = Unit {0}
AreConfigFiles (c ∷ cs) (file ∷ files) = IsConfigFile c file × AreConfigFiles cs files
AreConfigFiles [] (file ∷ files) = ⊥
AreConfigFiles (c ∷ cs) [] = ⊥

-- our groups: those whose servers nobody else runs
abbrev pub our_groups : (List ℕ → Bool) → Register → List Group
our_groups foreign r = filter (λ g. not (foreign g.name)) r.groups

-- the one of them that has a name
abbrev pub our_group : (List ℕ → Bool) → Register → List ℕ → Option Group
our_group foreign r name = find (λ g. is_same_name g.name name) (our_groups foreign r)

-- the files of the configurations of all our groups, in the order of the groups' names
pub record AreGroupFiles (foreign : List ℕ → Bool) (r : Register) (files : List NamedFile) : Type 0 where
  pub compiled : List ServerConfig
  pub each : map outline compiled ≡ map (group_config r) (our_groups foreign r)
  pub configs : List ServerConfig
  pub moved : IsPermutation compiled configs
  pub in_order : IsSorted (λ c d. slice_cmp nat_cmp c.name d.name) configs
  pub texts : AreConfigFiles configs files

-- ---- what is gone

-- the last manifest of a folder; an empty one where it has none
abbrev pub last_manifest : (FileName → Option (List ℕ)) → List ℕ
last_manifest files = unwrap_or (files Manifest) []

-- the last manifest lists the configuration of a group that isn't one of ours
abbrev pub IsGone : (List ℕ → Bool) → Register → (FileName → Option (List ℕ)) → List ℕ → Type 0
IsGone foreign r files name = IsListedIn (last_manifest files) name × (our_group foreign r name ≡ None)

-- the bytes that were listed, by the digits of their SHA-256
abbrev pub is_as_listed : ListedConfig → List ℕ → Bool
is_as_listed listed bytes = bytes_eq (digits_of bytes) listed.digits

-- the configuration of a group, if the group isn't one of ours and the file is there as it was listed
abbrev pub gone_if : Bool → ListedConfig → Option (List ℕ) → List NamedFile
gone_if true listed found = []
gone_if false listed None = []
gone_if false listed (Some bytes) =
    if is_as_listed listed bytes then record { name = Config listed.name; bytes = bytes } ∷ [] else []

-- and what was listed, if the file is there with other bytes
abbrev pub altered_if : Bool → ListedConfig → Option (List ℕ) → List ListedConfig
altered_if true listed found = []
altered_if false listed None = []
altered_if false listed (Some bytes) = if is_as_listed listed bytes then [] else listed ∷ []

-- a name and digits, as a configuration that was listed
abbrev pub listed_of : List ℕ × List ℕ → ListedConfig
listed_of entry = record { name = entry.0; digits = entry.1 }

-- the same, by what stands in the folder
abbrev pub gone_for : (List ℕ → Bool) → Register → (FileName → Option (List ℕ)) → List ℕ × List ℕ → List NamedFile
gone_for foreign r files entry =
    gone_if (is_some (our_group foreign r entry.0)) (listed_of entry) (files (Config entry.0))

abbrev pub altered_for : (List ℕ → Bool) → Register → (FileName → Option (List ℕ)) → List ℕ × List ℕ
    → List ListedConfig
altered_for foreign r files entry =
    altered_if (is_some (our_group foreign r entry.0)) (listed_of entry) (files (Config entry.0))

-- The configurations of groups that are gone, in the order of the groups' names: those that are as the last manifest
-- lists them, and those that somebody altered since.
pub record AreGoneFiles (foreign : List ℕ → Bool) (r : Register) (files : FileName → Option (List ℕ))
    (gone : List NamedFile) (altered : List ListedConfig) : Type 0 where
  pub last : BTreeMap (List ℕ) (List ℕ)
  pub listed : AreConfigsIn (last_manifest files) last
  pub in_order : IsOrdered (slice_cmp nat_cmp) last
  pub are : gone ≡ flat_map (gone_for foreign r files) last.entries
  pub are_altered : altered ≡ flat_map (altered_for foreign r files) last.entries

-- ---- what is to be done

-- a file is written that isn't there, or has other bytes
abbrev pub step_for : NamedFile → Option (List ℕ) → List Step
step_for file None = Add file ∷ []
step_for file (Some bytes) = if bytes_eq bytes file.bytes then [] else Change file ∷ []

-- a file that has these bytes stays as it is
abbrev pub same_for : NamedFile → Option (List ℕ) → List FileName
same_for file None = []
same_for file (Some bytes) = if bytes_eq bytes file.bytes then file.name ∷ [] else []

-- the same of each file, by what stands in the folder
abbrev pub steps_for : (FileName → Option (List ℕ)) → List NamedFile → List Step
steps_for files wanted = flat_map (λ file. step_for file (files file.name)) wanted

-- the files that stay as they are
abbrev pub same_in : (FileName → Option (List ℕ)) → List NamedFile → List FileName
same_in files wanted = flat_map (λ file. same_for file (files file.name)) wanted

-- the files of groups that are gone are removed, if that is asked for
abbrev pub removals : Bool → List NamedFile → List Step
removals true gone = map (λ file. Remove file.name) gone
removals false gone = []

-- and are left there otherwise
abbrev pub left_of : Bool → List NamedFile → List NamedFile
left_of true gone = []
left_of false gone = gone

-- the manifest of some files, with the lines that some configurations have already
abbrev pub manifest_file : List NamedFile → List ListedConfig → NamedFile
manifest_file files kept = record { name = Manifest; bytes = manifest_text files ++ flat_map kept_line kept }
