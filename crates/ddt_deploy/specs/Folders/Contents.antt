-- What a folder holds, and what changes of it.
use Rattle.std.specs.Prelude.{◌≡◌, ◌⊎◌, ℕ, if◌then◌else◌, List, [], ◌∷◌, ◌++◌, Option, None}
use Rattle.ddt_deploy.specs.declared.folders.file_name.FileName.{FileName}
use Rattle.ddt_deploy.specs.Folders.Names.{is_same_file}

-- The bytes of each file, and of the file beside it, where there is one; and which files were put in place or removed
-- so far, the last at the end.
pub record Contents : Type 0 where
  pub files : FileName → Option (List ℕ)
  pub beside : FileName → Option (List ℕ)
  pub touched : List FileName

-- what is held at each name, with this at one
abbrev pub put : {A : Type 0} → FileName → A → (FileName → A) → FileName → A
put name value held other = if is_same_file name other then value else held other

-- this is beside a file, or nothing is
abbrev pub with_beside : FileName → Option (List ℕ) → Contents → Contents
with_beside name left s = record { files = s.files; beside = put name left s.beside; touched = s.touched }

-- what was beside a file is in its place
abbrev pub placed : FileName → Contents → Contents
placed name s = record {
  files = put name (s.beside name) s.files;
  beside = put name None s.beside;
  touched = s.touched ++ name ∷ [];
}

-- a file is removed
abbrev pub removed : FileName → Contents → Contents
removed name s = record { files = put name None s.files; beside = s.beside; touched = s.touched ++ name ∷ [] }

-- no file is changed; what stands beside one may be
abbrev pub IsAsBefore : FileName → Contents → Contents → Type 0
IsAsBefore name s t = (t ≡ s) ⊎ ((left : Option (List ℕ)) × (t ≡ with_beside name left s))
