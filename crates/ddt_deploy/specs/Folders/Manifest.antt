-- The manifest of a folder, as `sha256sum` writes one.
use Rattle.std.specs.Prelude.{◌≡◌, ◌⊎◌, ℕ, ◌==◌, IsTrue, List, ◌++◌, length, codes, Contains, Option, Some, MatchOption}
use Rattle.std.specs.List.{flat_map, slice_split}
use Rattle.std.specs.Ordering.{nat_cmp}
use Rattle.std.specs.Cmp.Lexicographic.{slice_cmp}
use Rattle.std.specs.BTreeMap.{BTreeMap, get}
use Rattle.hex.specs.Hex.{encode_lower}
use Rattle.sha2.specs.Sha256.{sha256}
use Rattle.ddt_path.specs.Names.{is_name}
use Rattle.ddt_deploy.specs.declared.folders.file_name.FileName.{FileName}
use Rattle.ddt_deploy.specs.declared.folders.file_name.FileName.TheVariants.{Config}
use Rattle.ddt_deploy.specs.declared.folders.step.NamedFile.{NamedFile}
use Rattle.ddt_deploy.specs.declared.folders.step.ListedConfig.{ListedConfig}
use Rattle.ddt_deploy.specs.Folders.Names.{file_text}

-- the SHA-256 of these bytes in hexadecimal digits
abbrev pub digits_of : List ℕ → List ℕ
digits_of bytes = encode_lower (sha256 bytes)

-- a line: digits, two blanks, and the name of a file
abbrev pub listed_line : List ℕ → FileName → List ℕ
listed_line digits name = digits ++ codes "  " ++ file_text name ++ codes "\n"

-- the line of a file
abbrev pub manifest_line : NamedFile → List ℕ
manifest_line file = listed_line (digits_of file.bytes) file.name

-- the line that a configuration has already
abbrev pub kept_line : ListedConfig → List ℕ
kept_line listed = listed_line listed.digits (Config listed.name)

-- a line for each file
abbrev pub manifest_text : List NamedFile → List ℕ
manifest_text files = flat_map manifest_line files

-- A line for the configuration of a group: 64 digits, two blanks, the name of the group and `.toml`.
abbrev pub ListsConfig : List ℕ → List ℕ → List ℕ → Type 0
ListsConfig line name digits =
    (length digits ≡ 64) × (line ≡ digits ++ (codes "  " ++ (name ++ codes ".toml"))) × IsTrue (is_name name)

-- a line for it, whatever its digits are
abbrev pub NamesConfig : List ℕ → List ℕ → Type 0
NamesConfig line name = (digits : List ℕ) × ListsConfig line name digits

-- the lines of a manifest: what stands between line feeds
abbrev pub lines_in : List ℕ → List (List ℕ)
lines_in manifest = slice_split (λ b. b == 10) manifest

-- a manifest has a line for the configuration of a group
abbrev pub IsListedIn : List ℕ → List ℕ → Type 0
IsListedIn manifest name = (line : List ℕ) × Contains (lines_in manifest) line × NamesConfig line name

-- with one line more: each name has the digits that the line has for it, or those that it had before
abbrev pub HasLine : List ℕ → (List ℕ → Option (List ℕ)) → (List ℕ → Option (List ℕ)) → Type 0
HasLine line old new = (name : List ℕ)
    → ((digits : List ℕ) × ListsConfig line name digits × (new name ≡ Some digits))
    ⊎ ((¬ (NamesConfig line name)) × (new name ≡ old name))

-- and one with these digits
abbrev pub IsListedAs : List ℕ → List ℕ → List ℕ → Type 0
IsListedAs manifest name digits = (line : List ℕ) × Contains (lines_in manifest) line × ListsConfig line name digits

-- the groups of all lines, each with the digits of one of its lines
abbrev pub AreConfigsIn : List ℕ → BTreeMap (List ℕ) (List ℕ) → Type 0
AreConfigsIn manifest listed = (name : List ℕ)
    → MatchOption (get (slice_cmp nat_cmp) listed name) (¬ (IsListedIn manifest name)) (IsListedAs manifest name)
