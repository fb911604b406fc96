-- The names of the files that configurations are kept in.
use Rattle.std.specs.Prelude.{◌≡◌, ℕ, ◌<◌, Bool, true, false, not, ◌==◌, ◌&&◌, List, length, ◌++◌, codes}
use Rattle.std.specs.List.{list_all}
use Rattle.ddt_path.specs.Names.{is_same_name}
use Rattle.ddt_deploy.specs.declared.folders.file_name.FileName.{FileName}
use Rattle.ddt_deploy.specs.declared.folders.file_name.FileName.TheVariants.{Register, Config, Manifest}

-- the name of a file in the folder
abbrev pub file_text : FileName → List ℕ
file_text Register = codes "register.csv"
file_text (Config name) = name ++ codes ".toml"
file_text Manifest = codes "MANIFEST"

-- the name of a file beside it, which is written first: with a mark
abbrev pub beside_text : FileName → List ℕ → List ℕ
beside_text file mark = file_text file ++ codes "." ++ mark ++ codes ".new"

-- two names are one
abbrev pub is_same_file : FileName → FileName → Bool
is_same_file Register Register = true
is_same_file (Config name) (Config other) = is_same_name name other
is_same_file Manifest Manifest = true
is_same_file Register (Config other) = false
is_same_file Register Manifest = false
is_same_file (Config name) Register = false
is_same_file (Config name) Manifest = false
is_same_file Manifest Register = false
is_same_file Manifest (Config other) = false

-- neither a slash nor the byte 0, of which a name in a folder has none
abbrev pub is_plain_byte : ℕ → Bool
is_plain_byte b = not (b == 47) && not (b == 0)

-- A text that names a file of the folder itself: it has no slash, and is longer than `.` and `..` are.
pub record IsPlain (text : List ℕ) : Type 0 where
  pub bytes : list_all is_plain_byte text ≡ true
  pub long : 2 < length text
