-- What a folder in memory holds.
use Rattle.std.specs.Prelude.{◌≡◌, ℕ, List, length, Option}
use Rattle.std.specs.Ordering.{nat_cmp}
use Rattle.std.specs.Cmp.Lexicographic.{slice_cmp}
use Rattle.std.specs.BTreeMap.{get}
use Rattle.ddt_deploy.specs.declared.folders.file_name.FileName.{FileName}
use Rattle.ddt_deploy.specs.declared.folders.file_name.FileName.TheVariants.{Register, Config, Manifest}
use Rattle.ddt_deploy.specs.declared.folders.folder_in_memory.Files.{Files}
use Rattle.ddt_deploy.specs.declared.folders.folder_in_memory.FolderInMemory.{FolderInMemory}
use Rattle.ddt_deploy.specs.Folders.Contents.{Contents}

-- the bytes of a file, where there is one
abbrev pub held : Files → FileName → Option (List ℕ)
held files Register = files.register
held files (Config name) = get (slice_cmp nat_cmp) files.configs name
held files Manifest = files.manifest

-- what it holds: its files, those beside them, and how many were touched
pub record HoldsOf (folder : FolderInMemory) (s : Contents) : Type 0 where
  pub files : (name : FileName) → s.files name ≡ held folder.files name
  pub beside : (name : FileName) → s.beside name ≡ held folder.beside name
  pub touched : length s.touched ≡ folder.touches
